-- Tables, some rows at a time: the laws of rows behind rows, of the first rows, and of the rows from one on.
-- Assumes nothing.
use Prim.Native.Nat.{ℕ, suc, ◌+◌, ◌-◌, ◌≤◌}
use native.Mathlib.Omega.{arith}
use native.Mathlib.Nat.{add-zero}
use mathlib.Core.Path.{◌≡◌, refl, sym, ap, ◌∙◌, subst}
use mathlib.Core.List.{List, ◌++◌, append_assoc, append-nil}
use lib.ListN.{get_or, drop, length-append, take-append-drop}
use lib.Seq.{take_at, drop_at, drop-drop, get_or-drop, length-take-le, take-take}
use Rattle.plan.specs.Tree.{Forest, none, tree, count, dists, ◌⊕◌}
use Rattle.plan.specs.Table.{Table, TreeOf}
use Rattle.plan.proofs.Columns.{length-sizes, length-dists, length-labels, sizes_beside, labels_beside, dists_beside}
use Rattle.pass_moves.specs.Rows.{◌⧺◌, one_row, rows, first_rows, later_rows, Tall, Room}

pub table_eq : {u v : Table} → u.dist ≡ v.dist → u.size ≡ v.size → u.value ≡ v.value → u ≡ v
table_eq d s l = λ i. record { dist = d i; size = s i; value = l i }

pub room_less : {m n : ℕ} {u : Table} → m ≤ n → Room n u → Room m u
room_less l r = record { dist = omega (arith, r.dist); size = omega (arith, r.size); value = omega (arith, r.value) }

-- ---- rows behind rows
pub rows_assoc : (u v w : Table) → (u ⧺ v) ⧺ w ≡ u ⧺ (v ⧺ w)
rows_assoc u v w =
    table_eq (append_assoc u.dist v.dist w.dist) (append_assoc u.size v.size w.size)
    (append_assoc u.value v.value w.value)

pub none-behind : (u : Table) (d : ℕ) → u ⧺ rows d none ≡ u
none-behind u d = table_eq (append-nil u.dist) (append-nil u.size) (append-nil u.value)

pub rows_beside : (d e : ℕ) (f g : Forest ℕ) → e ≡ d + count f → rows d f ⧺ rows e g ≡ rows d (f ⊕ g)
rows_beside d e f g h =
    table_eq (ap (λ (x : ℕ). dists d f ++ dists x g) h ∙ sym (dists_beside d f g)) (sym (sizes_beside f g))
    (sym (labels_beside f g))

-- ---- how many rows
pub tall_rows : (d : ℕ) (f : Forest ℕ) → Tall (count f) (rows d f)
tall_rows d f = record { dist = length-dists d f; size = length-sizes f; value = length-labels f }

pub tall_one : (d s a : ℕ) → Tall 1 (one_row d s a)
tall_one d s a = record { dist = refl; size = refl; value = refl }

pub tall_beside : {m n : ℕ} (u v : Table) → Tall m u → Tall n v → Tall (m + n) (u ⧺ v)
tall_beside u v a b =
    record {
      dist = omega (arith, length-append u.dist v.dist, a.dist, b.dist);
      size = omega (arith, length-append u.size v.size, a.size, b.size);
      value = omega (arith, length-append u.value v.value, a.value, b.value);
    }

pub tall_is : {m n : ℕ} {u : Table} → m ≡ n → Tall m u → Tall n u
tall_is e h = rw e at h

pub tall_first : {n : ℕ} {u : Table} → Room n u → Tall n (first_rows n u)
tall_first {n} {u} r =
    record {
      dist = length-take-le n u.dist r.dist;
      size = length-take-le n u.size r.size;
      value = length-take-le n u.value r.value;
    }

-- ---- first rows and later rows
pub first_beside : {n : ℕ} (u v : Table) → Tall n u → first_rows n (u ⧺ v) ≡ u
first_beside {n} u v h =
    table_eq (take_at u.dist v.dist n h.dist) (take_at u.size v.size n h.size)
    (take_at u.value v.value n h.value)

pub later_beside : {n : ℕ} (u v : Table) → Tall n u → later_rows n (u ⧺ v) ≡ v
later_beside {n} u v h =
    table_eq (drop_at u.dist v.dist n h.dist) (drop_at u.size v.size n h.size)
    (drop_at u.value v.value n h.value)

pub later-later : (m n : ℕ) (u : Table) → later_rows m (later_rows n u) ≡ later_rows (n + m) u
later-later m n u = table_eq (drop-drop m n u.dist) (drop-drop m n u.size) (drop-drop m n u.value)

pub first-first : (m n : ℕ) (u : Table) → m ≤ n → first_rows m (first_rows n u) ≡ first_rows m u
first-first m n u l = table_eq (take-take m n u.dist l) (take-take m n u.size l) (take-take m n u.value l)

pub first-later : (n : ℕ) (u : Table) → first_rows n u ⧺ later_rows n u ≡ u
first-later n u =
    table_eq (take-append-drop n u.dist) (take-append-drop n u.size) (take-append-drop n u.value)

-- equal rows from n on are equal rows from m on
pub later-on : (m n : ℕ) (u v : Table) → n ≤ m → later_rows n u ≡ later_rows n v → later_rows m u ≡ later_rows m v
later-on m n u v l e =
    let d : n + (m - n) ≡ m = omega arith in
    ap (λ (x : ℕ). later_rows x u) (sym d)
    ∙ (sym (later-later (m - n) n u)
    ∙ (ap (later_rows (m - n)) e ∙ (later-later (m - n) n v ∙ ap (λ (x : ℕ). later_rows x v) d)))

-- ---- the rows from row b on, when they begin with others
pub past-rows : (b n : ℕ) (t u v : Table) → later_rows b t ≡ u ⧺ v → Tall n u → later_rows (b + n) t ≡ v
past-rows b n t u v e h = sym (later-later n b t) ∙ (ap (later_rows n) e ∙ later_beside u v h)

-- the first of them
pub row_at : (b d s a : ℕ) (t v : Table) → later_rows b t ≡ one_row d s a ⧺ v
    → (get_or t.dist b 0 ≡ d) × (get_or t.size b 0 ≡ s) × (get_or t.value b 0 ≡ a)
row_at b d s a t v e = (
  head t.dist ∙ ap (λ (w : Table). get_or w.dist 0 0) e,
  head t.size ∙ ap (λ (w : Table). get_or w.size 0 0) e,
  head t.value ∙ ap (λ (w : Table). get_or w.value 0 0) e,
)
  where
    head : (l : List ℕ) → get_or l b 0 ≡ get_or (drop b l) 0 0
    head l = ap (λ (x : ℕ). get_or l x 0) (sym (add-zero b)) ∙ sym (get_or-drop b l 0 0)

-- how many rows the table of a tree has
pub tall_tree : {t : Table} (h : TreeOf t) → Tall (suc (count h.kids)) t
tall_tree h =
    subst (Tall (suc (count h.kids))) (sym h.is-table)
    (tall_is (omega arith) (tall_rows 1 (tree h.root h.kids none)))
