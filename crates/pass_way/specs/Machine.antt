-- The pass, a step at a time over the columns of a table. What is open is the row `parent` of the old table, which
-- became the row `under` of the new one, and its line of parents: the distances, old and new, lead back. A row that is
-- opened has its old size, until its new size is written when it is closed. So no array and no stack is needed.
-- Assumes nothing.
use Rattle.std.specs.Prelude.{ℕ, suc, ◌+◌, ◌-◌, ◌≡◌, cond, ◌&&◌, List, [], ◌∷◌, eqb, length, get_or, set}
use Rattle.plan.specs.Tree.{Forest, none, count}
use Rattle.plan.specs.Table.{Table, table, table_of}
use Rattle.plan.specs.Change.{Act, delete, rename, replace, Change, insert, act, skip}
use Rattle.plan.specs.Open.{dist_at, size_at}
use Rattle.pass_moves.specs.Rows.{◌⧺◌, one_row, rows}

-- the next old row, the next new row, the innermost open row in the old table and in the new, the new rows, the changes
-- that are left
pub record State : Type 0 where
  pub row : ℕ
  pub out : ℕ
  pub parent : ℕ
  pub under : ℕ
  pub new : Table
  pub left : List (Change ℕ)

abbrev pub state : (row out parent under : ℕ) → Table → List (Change ℕ) → State
state i o q j u cs = record { row = i; out = o; parent = q; under = j; new = u; left = cs }

-- the value and the size of a row, written anew
abbrev pub value_at : Table → ℕ → ℕ
value_at t r = get_or t.value r 0

abbrev pub sized : Table → (row size : ℕ) → Table
sized u j n = table u.dist (set u.size j n) u.value

-- ---- what a step can do
-- the trees f come next, under the open row; the old rows go on at row i
abbrev pub pasted : State → Forest ℕ → ℕ → List (Change ℕ) → State
pasted s f i cs =
    state i (s.out + count f) s.parent s.under (s.new ⧺ rows (s.out - s.under) f) cs

module _ (t : Table) where
  -- the next old row becomes the next new row, with the value a and its old size, and is open
  abbrev pub opened : State → ℕ → List (Change ℕ) → State
  opened s a cs =
      let v = one_row (s.out - s.under) (size_at t s.row) a in
      state (suc s.row) (suc s.out) s.row s.out (s.new ⧺ v) cs

  -- the open row is closed, and its parent is open
  abbrev pub closed : State → State
  closed s =
      let q = s.parent in
      let j = s.under in
      state s.row s.out (q - dist_at t q) (j - dist_at s.new j) (sized s.new j (s.out - j)) s.left

  -- the next old row goes with its rows, and the trees f take its place; what is lost with these rows is dropped
  abbrev pub passed : State → Forest ℕ → List (Change ℕ) → State
  passed s f cs = let e = s.row + size_at t s.row in pasted s f e (skip s.row e cs)

  abbrev pub changed : State → Act ℕ → List (Change ℕ) → State
  changed s delete cs = passed s none cs
  changed s (rename g) cs = opened s (g (value_at t s.row)) cs
  changed s (replace f) cs = passed s f cs

  -- the next old row is a child of the open row
  abbrev pub child : State → List (Change ℕ) → State
  child s [] = opened s (value_at t s.row) []
  child s (insert p q f ∷ cs) = opened s (value_at t s.row) (insert p q f ∷ cs)
  child s (act p x ∷ cs) =
      cond (eqb p s.row) (changed s x cs) (opened s (value_at t s.row) (act p x ∷ cs))

  abbrev pub advanced : State → State
  advanced s = cond (eqb s.row (s.parent + size_at t s.parent)) (closed s) (child s s.left)

  -- an insert that belongs here goes in first
  abbrev pub stepped : State → List (Change ℕ) → State
  stepped s [] = advanced s
  stepped s (act p x ∷ cs) = advanced s
  stepped s (insert p q f ∷ cs) =
      cond (eqb p s.row && eqb (suc q) (suc s.parent)) (pasted s f s.row cs) (advanced s)

  unfoldable pub step : State → State
  step s = stepped s s.left

  -- ---- steps one after the other
  pub data Reach : State → State → Type 0 where
    stop : {s : State} → Reach s s
    more : {s v : State} → Reach (step s) v → Reach s v

-- the machine at its start, with the root open, and at its end: the table of the tree f, and no change left
abbrev pub begun : ℕ → List (Change ℕ) → State
begun a cs = state 1 1 0 0 (one_row 1 0 a) cs

abbrev pub done : ℕ → Forest ℕ → State
done n f = state n (count f) 0 0 (table_of f) []

-- ---- the place of the next change
-- it is made where row p is next and q is open. No change left: on to the end
abbrev pub Aim : Table → (p q : ℕ) → List (Change ℕ) → Type 0
Aim t p q [] = (p ≡ length t.size) × (q ≡ 0)
Aim t p q (insert p' q' s ∷ cs) = (p' ≡ p) × (q' ≡ q)
Aim t p q (act p' x ∷ cs) = (p' ≡ p) × (p ≡ q + dist_at t p)

-- row i is next and r is open, and that is not the place
abbrev pub Away : (p q i r : ℕ) → Type 0
Away p q i r = i ≡ p → r ≡ q → ⊥
