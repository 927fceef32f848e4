-- What is said of the rows, one by one, in the inner functions' contracts.
-- A column is read as a function of the row: s z is the size of row z, d z its distance.
-- Assumes nothing.
use Rattle.std.specs.Prelude.{◌≡◌, ℕ, ◌+◌, ◌<◌, ◌≤◌, Bool, true, false, List, length}
use Rattle.plan.specs.Table.{most_rows}
use Rattle.plan.specs.Axes.{cell}

-- x is before r and does not end before r; every row between them ends at r or before
pub record Open (s : ℕ → ℕ) (r x : ℕ) : Type 0 where
  pub before : x < r
  pub reach : r ≤ x + s x
  pub closed : (z : ℕ) → x < z → z < r → z + s z ≤ r

-- the same where x ends past r, so that r lies in it: no other row is the parent of r
pub record Inner (s : ℕ → ℕ) (r x : ℕ) : Type 0 where
  pub before : x < r
  pub past : r < x + s x
  pub closed : (z : ℕ) → x < z → z < r → z + s z ≤ r

-- row r fits as a child of x
pub record Fine (s d : ℕ → ℕ) (r x : ℕ) : Type 0 where
  pub far : x + d r ≡ r
  pub some : 1 ≤ s r
  pub inside : r + s r ≤ x + s x

-- row r has a parent
pub record Row (s d : ℕ → ℕ) (r : ℕ) : Type 0 where
  pub parent : ℕ
  pub inner : Inner s r parent
  pub fine : Fine s d r parent

-- every row before r, but for the root, has a parent, and the root is the whole table's
pub record Rows (s d : ℕ → ℕ) (n r : ℕ) : Type 0 where
  pub root-dist : d 0 ≡ 1
  pub root-size : s 0 ≡ n
  pub row : (z : ℕ) → 0 < z → z < r → Row s d z

-- columns of one length, from 1 to 65,535, whose root is right
pub record Rooted (dist size : List ℕ) : Type 0 where
  pub same : length dist ≡ length size
  pub some : 1 ≤ length size
  pub few : length size ≤ most_rows
  pub root-dist : cell dist 0 ≡ 1
  pub root-size : cell size 0 ≡ length size

-- what the rows before r are, where r is not past the last and x is where to start the climb to r's parent
pub record Ready (dist size : List ℕ) (r x : ℕ) : Type 0 where
  pub same : length dist ≡ length size
  pub more : r < length size
  pub rows : Rows (cell size) (cell dist) (length size) r
  pub here : Open (cell size) r x

-- a test's answer tells whether P holds
abbrev pub Says : Bool → Type 0 → Type 0
Says true P = P
Says false P = P → ⊥
