-- The rows of a sound table all have parents.
-- Assumes nothing.
use Rattle.std.proofs.Common.{◌≡◌, ℕ, zero, suc, ◌<◌, ◌≤◌, T, List, length, refl, ap, ◌∙◌, arith}
use Rattle.plan.specs.Tree.{Forest, none, tree, count, sizes, dists}
use Rattle.plan.specs.Table.{Table, table, most_rows, sound}
use Rattle.plan.specs.Axes.{cell}
use Rattle.plan.proofs.Columns.{length-sizes, length-dists, length-labels}
use Rattle.plan.proofs.Sound.{sound-tree}
use Rattle.plan.proofs.Axes.{kin_of}
use Rattle.table.specs.Rows.{Row, Rows}
use Rattle.table.specs.Shape.{Shaped}

-- of the tree with root a and children k
module _ (a : ℕ) (k : Forest ℕ) where
  abbrev T' : Forest ℕ
  T' = tree a k none

  row-tree : (z : ℕ) → 0 < z → z < length (sizes T') → Row (cell (sizes T')) (cell (dists 1 T')) z
  row-tree zero l m = absurd (omega arith)
  row-tree (suc p) l m =
      let w = kin_of a k p (omega (arith, length-sizes T')) in
      record {
        parent = w.parent;
        inner = record { before = w.before; past = omega (arith, w.inside, w.some); closed = w.closed };
        fine = record { far = w.far; some = w.some; inside = w.inside };
      }

  rows-tree : Rows (cell (sizes T')) (cell (dists 1 T')) (length (sizes T')) (length (sizes T'))
  rows-tree = record { root-dist = refl; root-size = omega (arith, length-sizes T'); row = row-tree }

-- what is known of the lengths of a sound table
pub record Lengths (t : Table) : Type 0 where
  pub dist : length t.dist ≡ length t.size
  pub value : length t.value ≡ length t.size
  pub some : 1 ≤ length t.size
  pub few : length t.size ≤ most_rows

pub sound_lengths : (t : Table) → T (sound t) → Lengths t
sound_lengths t s =
    let h = sound-tree t s in
    let f : Forest ℕ = tree h.root h.kids none in
    let d : length t.dist ≡ count f = ap (λ (u : Table). length u.dist) h.is-table ∙ length-dists 1 f in
    let z : length t.size ≡ count f = ap (λ (u : Table). length u.size) h.is-table ∙ length-sizes f in
    let v : length t.value ≡ count f = ap (λ (u : Table). length u.value) h.is-table ∙ length-labels f in
    record { dist = omega arith; value = omega arith; some = omega arith; few = omega (arith, h.few) }

pub sound-rows : (t : Table) → T (sound t)
    → Rows (cell t.size) (cell t.dist) (length t.size) (length t.size)
sound-rows t s = let h = sound-tree t s in rw h.is-table (rows-tree h.root h.kids)

-- the same of the distances and sizes alone
pub shape_lengths : (D S : List ℕ) → Shaped D S → (length D ≡ length S) × (1 ≤ length S) × (length S ≤ most_rows)
shape_lengths D S h = omega (arith, sound_lengths (table D S h.value) h.is)

pub shape_rows : (D S : List ℕ) → Shaped D S → Rows (cell S) (cell D) (length S) (length S)
shape_rows D S h = sound-rows (table D S h.value) h.is
