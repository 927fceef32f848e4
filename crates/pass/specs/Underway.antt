-- How the pass goes on from record to record.
-- Assumes nothing.
use Rattle.std.specs.Prelude.{ℕ, ◌+◌, ◌-◌, ◌≤◌, ◌<◌, ◌≡◌, cond, List, [], ◌∷◌, eqb, length, set, Option}
use Rattle.plan.specs.declared.Record.{Record}
use Rattle.plan.specs.Tree.{relabel}
use Rattle.plan.specs.Table.{Table, table}
use Rattle.plan.specs.Change.{Change, skip}
use Rattle.plan.specs.Paint.{old, plan, bare}
use Rattle.plan.specs.Call.{result}
use Rattle.plan.specs.Records.{All, PassAll}
use Rattle.pass_way.specs.Machine.{State, Reach, done}
use Rattle.pass.specs.Values.{values}
use Rattle.pass_way.specs.Walk.{valuing, state_of, Stands, Kept}
use Rattle.pass_moves.specs.declared.Cursor.{Cursor}
use Rattle.pass_moves.specs.Written.{row, out, Ahead}
use Rattle.pass.specs.Asked.{Given, Answered}

-- the root gets another value
abbrev pub renamed : Table → ℕ → Table
renamed u v = table u.dist u.size (set u.value 0 v)

-- the changes that are left, without those that are vain where the pass stands
abbrev pub still_to_come : Cursor → List (Change ℕ) → List (Change ℕ)
still_to_come c cs = skip c.stand.first.0 c.stand.end.0 cs

-- the machine's state when a record that renames the root is done, and the vain ones are dropped
abbrev pub onward : Table → Table → Cursor → List Record → State
onward i u c [] = state_of u c []
onward i u c (r ∷ rs) =
    cond (eqb r.location 0) (state_of (renamed u r.value) c (still_to_come c (values i rs)))
    (state_of u c (still_to_come c (values i (r ∷ rs))))

abbrev pub behind_first : List Record → List Record
behind_first [] = []
behind_first (r ∷ rs) = rs

-- the end: the columns of the result
abbrev pub goal : Table → Table → List Record → State
goal t i l = done (length t.size) (relabel bare (result t i l))

-- the pass over the list l, into the columns w, has come to the cursor c and the columns u, and the records rs are
-- left. The renames of rows ahead are in the table's values already
pub record Underway (t i : Table) (l : List Record) (w u : Table) (c : Cursor) (rs : List Record) : Type 0 where
  pub given : Given t i l w
  pub before : Option Record
  pub passes : PassAll (plan old t) i before rs
  pub past-root : All (λ r. 0 < r.location) (behind_first rs)
  pub values : List ℕ
  pub ahead : Ahead values t.value u.value c
  pub coming : row c < c.valued.0 → (c.valued.0 ≤ length t.size) × All (λ r. c.valued.0 ≤ r.location) rs
  pub stands : Stands (valuing t values) u c
  pub kept : Kept (out c + (c.valued.0 - row c)) w u
  pub reach : Reach (valuing t values) (onward i u c rs) (goal t i l)

-- some list goes on with the record r
pub record Next (t i u : Table) (c : Cursor) (r : Record) : Type 0 where
  pub list : List Record
  pub new : Table
  pub rest : List Record
  pub underway : Underway t i list new u c (r ∷ rest)

-- every list that went on with r goes on behind it
pub record Taken (t i u : Table) (c : Cursor) (r : Record) (u' : Table) (c' : Cursor) : Type 0 where
  pub onward : (l : List Record) (w : Table) (rs : List Record)
      → Underway t i l w u c (r ∷ rs) → Underway t i l w u' c' rs

-- some list is at its end
pub record Last (t u : Table) (c : Cursor) : Type 0 where
  pub insertions : Table
  pub list : List Record
  pub new : Table
  pub underway : Underway t insertions list new u c []

-- every list that was at its end still is
pub record Copied (t u : Table) (c : Cursor) (u' : Table) (c' : Cursor) : Type 0 where
  pub still : (i : Table) (l : List Record) (w : Table) → Underway t i l w u c [] → Underway t i l w u' c' []
  pub dist : length u'.dist ≡ length u.dist
  pub size : length u'.size ≡ length u.size
  pub value : length u'.value ≡ length u.value

-- all rows are copied, and with some values some list is at its end
pub record Through (t : Table) (dist size : List ℕ) (c : Cursor) : Type 0 where
  pub value : List ℕ
  pub last : Last t (table dist size value) c
  pub all : row c ≡ length t.size

-- with these sizes, whatever the values are, every list that was at its end still is
abbrev pub Closed : Table → (dist size : List ℕ) → Cursor → List ℕ → Cursor → Type 0
Closed t dist size c size' c' = (value : List ℕ) → Copied t (table dist size value) c (table dist size' value) c'

-- every list that was at its end is done
pub record Finished (t u : Table) (c : Cursor) (u' : Table) (n : ℕ) : Type 0 where
  pub answered : (i : Table) (l : List Record) (w : Table) → Underway t i l w u c [] → Answered t i l w u' n
