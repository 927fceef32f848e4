-- What a record asks of the table: on a sound table it is read off the distances and sizes.
-- Assumes nothing.
use Prim.Native.Nat.{ℕ, ◌+◌, ◌≤◌, ◌<◌}
use native.Mathlib.Omega.{arith}
use mathlib.Core.Path.{◌≡◌, sym, ap, ◌∙◌, subst}
use mathlib.Core.Bool.{Bool, ◌&&◌}
use mathlib.Core.Logic.{◌↔◌}
use mathlib.Core.List.{List}
use lib.Dec.{T, ltb}
use lib.ListN.{length, get_or}
use Rattle.std.proofs.lemmas.Bool.Decides.{nat_tests}
use Rattle.plan.specs.declared.Record.{Record}
use Rattle.plan.specs.declared.Place.{Place}
use Rattle.plan.specs.Tree.{Forest, count, sizes}
use Rattle.plan.specs.Table.{Table, table, sound}
use Rattle.plan.specs.Change.{open_place}
use Rattle.plan.specs.Open.{QuickPlace}
use Rattle.plan.specs.Paint.{Painted, old, plan}
use Rattle.plan.specs.Records.{is_insert}
use Rattle.plan.specs.Way.{old_pre, goes_on_at, place_of}
use Rattle.plan.proofs.Rows.{below_fits, size-at}
use Rattle.plan.proofs.Planned.{plan-sizes, plan-dists, plan-length}
use Rattle.plan.proofs.OpenPlaces.{quick_exactly}
use Rattle.table.specs.Shape.{Shaped}
use Rattle.table.proofs.Parents.{shape_lengths}
use Rattle.judge_record.specs.Trial.{quick_place, open_for, Faces}
use Rattle.judge_record.specs.Way.{EndsLow}

-- ---- on a sound table
module _ (dist size value : List ℕ) (h : T (sound (table dist size value))) where
  abbrev f : Forest Painted
  f = plan old (table dist size value)

  abbrev n : ℕ
  n = length size

  pub rows_are : count f ≡ n
  rows_are = plan-length old (table dist size value) h

  pub sizes_are : sizes f ≡ size
  sizes_are = plan-sizes old (table dist size value) h

  -- a row and its rows end within the table
  pub ends_low : (p : ℕ) → p < n → p + get_or size p 0 ≤ n
  ends_low p l =
      let m : p < count f = omega (arith, rows_are) in
      omega (arith, rows_are, size-at f p m, below_fits f p m, ap (λ (s : List ℕ). get_or s p 0) sizes_are)

  -- on it the test in constant time finds the open places
  quick_open : (p q : ℕ) → q < n → open_place f p q ≡ quick_place dist size p q
  quick_open p q l =
      let w : T (open_place f p q) ↔ QuickPlace (table dist size value) p q =
      subst (λ (t : Table). T (open_place f p q) ↔ QuickPlace t p q)
      (λ i. table (plan-dists old (table dist size value) h i) (sizes_are i) value)
      (quick_exactly f value q (omega (arith, rows_are)) p) in
      grind (arith, nat_tests)

  insert-place : (p q : ℕ) → (ltb q n && open_place f p q) ≡ (ltb q n && quick_place dist size p q)
  insert-place p q = grind (arith, nat_tests, quick_open)

  -- what is read is what the record asks
  read_place : (r : Record) (p : Place) → p.rows ≡ n → p.end ≡ old_pre (goes_on_at size r)
      → p.opens ≡ open_for dist size r → p ≡ place_of f r
  unfolding place_of
  read_place r p a b c =
      let there = c ∙ ap (λ (x : Bool). is_insert r && x) (sym (insert-place r.location r.parent)) in
      rw (rows_are, sizes_are) (λ k. record { rows = a k; end = b k; opens = there k })

-- whatever the values are
pub faces_it : (dist size : List ℕ) (r : Record) (p : Place) → p.rows ≡ length size
    → p.end ≡ old_pre (goes_on_at size r) → p.opens ≡ open_for dist size r → Faces dist size r p
faces_it dist size r p a b c = record { faces = λ value h. read_place dist size value h r p a b c }

-- a record's rows end at a row number
pub row_ends : (dist size : List ℕ) (r : Record) → Shaped dist size → r.location < length size → EndsLow size r
row_ends dist size r h l =
    let low : r.location + get_or size r.location 0 ≤ length size = ends_low dist size h.value h.is r.location l in
    record { at_row = λ w. l; low = λ w. omega (arith, shape_lengths dist size h) }
