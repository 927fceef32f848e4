-- The shape of a table: its distances and sizes, without the values; and which row of it is the first bad one.
-- Assumes nothing.
use Rattle.std.specs.Prelude.{◌≡◌, ℕ, ◌+◌, ◌<◌, T, List, length, take, Option, Some, None}
use Rattle.plan.specs.Table.{table, sound}

-- with some values, the distances and sizes are a sound table
pub record Shaped (dist size : List ℕ) : Type 0 where
  pub value : List ℕ
  pub is : T (sound (table dist size value))

-- some sound table of that length has the same first k distances and sizes
pub record Begun (k : ℕ) (dist size : List ℕ) : Type 0 where
  pub dists : List ℕ
  pub sizes : List ℕ
  pub shaped : Shaped dists sizes
  pub dist-length : length dists ≡ length dist
  pub size-length : length sizes ≡ length size
  pub dist_same : take k dists ≡ take k dist
  pub size_same : take k sizes ≡ take k size

-- a bad row is the first at which no sound table goes on: none has these rows 0 to r, and one has those before r; there
-- is none where the shape is a sound table's
abbrev pub Right : Option ℕ → List ℕ → List ℕ → Type 0
Right None dist size = Shaped dist size
Right (Some r) dist size = (Begun (r + 1) dist size → ⊥) × (0 < r → Begun r dist size)
