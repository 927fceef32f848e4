-- The small moves of the pass: what each needs, and what the new columns hold after it.
-- Assumes nothing.
use Rattle.std.specs.Prelude.{ℕ, suc, ◌+◌, ◌-◌, ◌≤◌, ◌<◌, cond, List, [], ◌∷◌, ltb, ◌≡◌, length, get_or, take, drop, set}
use Rattle.std.proofs.Math.Seq.{paste}
use Rattle.plan.specs.Table.{Table, table, most_rows}
use Rattle.pass_moves.specs.Rows.{Room}
use Rattle.plan.specs.declared.Stand.{Stand}
use Rattle.plan.specs.Way.{old_pre, new_pre, stand}
use Rattle.pass_moves.specs.declared.Cursor.{Cursor}

-- the next old row and the next new row
abbrev pub row : Cursor → ℕ
row c = c.stand.row.0

abbrev pub out : Cursor → ℕ
out c = c.stand.out.0

-- at other rows, with the same old rows taken away
abbrev pub on_to : Stand → (row out : ℕ) → Stand
on_to s i o = stand i o s.first.0 s.end.0

abbrev pub cursor : Stand → (parent under valued : ℕ) → Cursor
cursor s q j m = record { stand = s; parent = old_pre q; under = new_pre j; valued = old_pre m }

-- the column u, with n numbers of the column c, from f on, written over those at `at`
unfoldable pub copied : (u : List ℕ) (at : ℕ) (c : List ℕ) (f n : ℕ) → List ℕ
copied u at c f n = paste u at (drop f c) n

-- the columns u, with n rows of t, from row f on, written over those at `at`; the first gets the distance d
abbrev pub laid : (u : Table) (at : ℕ) (t : Table) (f n d : ℕ) → Table
laid u at t f n d =
    table (set (copied u.dist at t.dist f n) at d) (copied u.size at t.size f n)
    (copied u.value at t.value f n)

-- a part of the distances, of rows that all lie under one row, from the i-th of them on: a distance of more than i
-- leads out of the part, to that row, which stands d rows before the part's first row among the new rows
abbrev pub hung : (d i x : ℕ) → ℕ
hung d i x = cond (ltb i x) (d + i) x

unfoldable pub rehung : (d i : ℕ) → List ℕ → List ℕ
rehung d i [] = []
rehung d i (x ∷ xs) = hung d i x ∷ rehung d (suc i) xs

-- the columns u, with n rows of t, from row f on, written over those at `at`, under the row that stands d rows before
abbrev pub stretched : (u : Table) (at : ℕ) (t : Table) (f n d : ℕ) → Table
stretched u at t f n d =
    table (copied u.dist at (rehung d 0 (drop f t.dist)) 0 n) (copied u.size at t.size f n)
    (copied u.value at t.value f n)

-- the columns u, with row `at` written
abbrev pub rowed : (u : Table) (at d s a : ℕ) → Table
rowed u at d s a = table (set u.dist at d) (set u.size at s) (set u.value at a)

-- a row and its subtree end at a row number
pub record Ended (size : List ℕ) (r : ℕ) : Type 0 where
  pub there : r < length size
  pub low : r + get_or size r 0 < 4294967296

-- n rows of t from row f on can come next
pub record Pastes (t : Table) (f n : ℕ) (u : Table) (c : Cursor) : Type 0 where
  pub some : 0 < n
  pub there : Room (f + n) t
  pub behind : c.under.0 < out c
  pub room : Room (out c + n) u

-- the rows of t up to row e can come next, under the open row
pub record Stretches (t : Table) (e : ℕ) (u : Table) (c : Cursor) : Type 0 where
  pub ahead : row c ≤ e
  pub there : Room e t
  pub behind : c.under.0 < out c
  pub few : out c + (e - row c) ≤ most_rows
  pub room : Room (out c + (e - row c)) u

-- r is the first row from `row` up to `stop` that is not before `valued`, or `stop`
pub record Unread (row valued stop r : ℕ) : Type 0 where
  pub low : row ≤ r
  pub high : r ≤ stop
  pub there : row < r → r ≤ valued
  pub missing : r < stop → valued ≤ r

-- l are the values of a table with the column `value`, but for renames: those before row `valued` are in the new column
-- already, where their rows will stand
pub record Ahead (l value new : List ℕ) (c : Cursor) : Type 0 where
  pub long : length l ≡ length value
  pub later : (k : ℕ) → c.valued.0 ≤ k → get_or l k 0 ≡ get_or value k 0
  pub there : (k : ℕ) → row c ≤ k → k < c.valued.0 → get_or new (out c + (k - row c)) 0 ≡ get_or l k 0

-- the rows up to row e are written, with whatever values are ahead
pub record Wrote (t u : Table) (c : Cursor) (e : ℕ) (v : Table) : Type 0 where
  pub wrote : (l : List ℕ) → Ahead l t.value u.value c
      → v ≡ stretched u (out c) (table t.dist t.size l) (row c) (e - row c) (out c - c.under.0)

-- row p can get another value ahead
pub record Revalues (value new : List ℕ) (c : Cursor) (p : ℕ) : Type 0 where
  pub ahead : row c ≤ p
  pub there : p < length value
  pub few : p ≤ most_rows
  pub room : out c + (p - row c) < length new

-- it has got the value a
pub record Revalued (value new : List ℕ) (c : Cursor) (p a : ℕ) (new' : List ℕ) : Type 0 where
  pub ahead : (l : List ℕ) → Ahead l value new c → c.valued.0 ≤ p
      → Ahead (set l p a) value new' (cursor c.stand c.parent.0 c.under.0 (p + 1))
  pub first : take (out c) new' ≡ take (out c) new
  pub later : drop (out c + (p + 1 - row c)) new' ≡ drop (out c + (p + 1 - row c)) new
  pub long : length new' ≡ length new

-- the open row can be closed
pub record Closes (dist ndist nsize : List ℕ) (c : Cursor) : Type 0 where
  pub behind : c.under.0 < out c
  pub few : out c ≤ most_rows
  pub there : c.parent.0 < length dist
  pub parent : get_or dist c.parent.0 0 ≤ c.parent.0
  pub there-new : c.under.0 < length ndist
  pub parent-new : get_or ndist c.under.0 0 ≤ c.under.0
  pub room : c.under.0 < length nsize
