-- Demand 2: a table is sound exactly when it is the table of some tree of 1 to 65,535 rows, and no two trees have one
-- table.
-- Assumes nothing.
use Prim.Native.Nat.{ℕ, suc, ◌≤◌}
use native.Mathlib.Omega.{arith}
use mathlib.Core.Path.{◌≡◌, refl, sym, ap, ◌∙◌}
use mathlib.Core.Bool.{◌&&◌}
use mathlib.Core.Logic.{◌↔◌}
use mathlib.Core.List.{List, [], ◌∷◌}
use lib.Dec.{T, leb, eqb, leb→le, le→leb, eqb→eq, eqb_refl}
use Rattle.plan.specs.Tree.{Forest, none, tree, count, labels, sizes, is_tree}
use Rattle.plan.specs.Table.{Table, table_of, spelled, same, same_table, most_rows, sound}
pub use Rattle.plan.specs.Table.{TreeOf}
use Rattle.plan.proofs.Kit.{T_and, and_T}
use Rattle.plan.proofs.Readback.{read_back, decide}

-- ---- the tests for equality
pub same_eq : (xs ys : List ℕ) → T (same xs ys) → xs ≡ ys
unfolding same
same_eq [] [] t = refl
same_eq [] (y ∷ ys) t = absurd t
same_eq (x ∷ xs) [] t = absurd t
same_eq (x ∷ xs) (y ∷ ys) t =
    let w = T_and (eqb x y) (same xs ys) t in cc (eqb→eq x y w.0, same_eq xs ys w.1)

pub same_refl : (xs : List ℕ) → T (same xs xs)
unfolding same
same_refl [] = tt
same_refl (x ∷ xs) = and_T (eqb x x) (same xs xs) (eqb_refl x) (same_refl xs)

pub same_table_eq : (t u : Table) → T (same_table t u) → t ≡ u
unfolding same_table
same_table_eq t u h =
    let w = T_and (same t.dist u.dist) (same t.size u.size && same t.value u.value) h in
    let v = T_and (same t.size u.size) (same t.value u.value) w.1 in
    let d = same_eq t.dist u.dist w.0 in
    let s = same_eq t.size u.size v.0 in
    let l = same_eq t.value u.value v.1 in
    λ i. record { dist = d i; size = s i; value = l i }

pub same_table_refl : (t : Table) → T (same_table t t)
unfolding same_table
same_table_refl t =
    and_T (same t.dist t.dist) _ (same_refl t.dist)
    (and_T (same t.size t.size) _ (same_refl t.size) (same_refl t.value))

-- ---- the tree of a sound table
-- a forest that is one tree
record OneTree (f : Forest ℕ) : Type 0 where
  root : ℕ
  kids : Forest ℕ
  is : f ≡ tree root kids none

one_tree : (f : Forest ℕ) → T (is_tree f) → OneTree f
unfolding is_tree
one_tree none t = absurd t
one_tree (tree a k none) t = record { root = a; kids = k; is = refl }
one_tree (tree a k (tree b l r)) t = absurd t

pub sound-tree : (t : Table) → T (sound t) → TreeOf t
unfolding sound
sound-tree t h =
    let f : Forest ℕ = spelled t.size t.value in
    let w = T_and (leb (count f) most_rows) (is_tree f && same_table t (table_of f)) h in
    let v = T_and (is_tree f) (same_table t (table_of f)) w.1 in
    let o = one_tree f v.0 in
    record {
      root = o.root;
      kids = o.kids;
      is-table = same_table_eq t (table_of f) v.1 ∙ ap table_of o.is;
      few = omega (arith, leb→le (count f) most_rows w.0, ap count o.is);
    }

tree_sound' : (a : ℕ) (k : Forest ℕ) → suc (count k) ≤ most_rows → T (sound (table_of (tree a k none)))
unfolding sound is_tree
tree_sound' a k l =
    rw (read_back (tree a k none))
    (and_T (leb (count (tree a k none)) most_rows) _ (le→leb (count (tree a k none)) most_rows (omega arith))
    (same_table_refl (table_of (tree a k none))))

pub tree-sound : (t : Table) → TreeOf t → T (sound t)
tree-sound t h = rw h.is-table (tree_sound' h.root h.kids h.few)

-- a table is sound exactly when some tree of 1 to 65,535 rows has it
pub sound_exactly : (t : Table) → T (sound t) ↔ TreeOf t
sound_exactly t = (sound-tree t, tree-sound t)

-- the sizes and values alone decide the tree, so each tree has one table and each table one tree
pub one_table : (f g : Forest ℕ) → sizes f ≡ sizes g → labels f ≡ labels g → f ≡ g
one_table f g s l = decide f g s l

-- two sound tables with equal sizes and values are equal
pub sizes_decide : (t u : Table) → T (sound t) → T (sound u) → t.size ≡ u.size → t.value ≡ u.value → t ≡ u
sizes_decide t u h l s v =
    let p = sound-tree t h in
    let q = sound-tree u l in
    let f : Forest ℕ = tree p.root p.kids none in
    let g : Forest ℕ = tree q.root q.kids none in
    let e : f ≡ g =
    decide f g (sym (ap (λ (x : Table). x.size) p.is-table) ∙ (s ∙ ap (λ (x : Table). x.size) q.is-table))
    (sym (ap (λ (x : Table). x.value) p.is-table) ∙ (v ∙ ap (λ (x : Table). x.value) q.is-table)) in
    p.is-table ∙ (ap table_of e ∙ sym q.is-table)
