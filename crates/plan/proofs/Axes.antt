-- On a sound table each axis is the tree's own relation: parent, first child, next sibling, the values of a subtree;
-- and a child walk gives exactly the children, in order, and then none.
-- Assumes nothing.
use Prim.Native.Nat.{ℕ, zero, suc, ◌+◌, ◌-◌, ◌≤◌, ◌<◌}
use native.Mathlib.Omega.{arith}
use native.Mathlib.Nat.{zero-add, suc-add}
use mathlib.Core.Path.{◌≡◌, refl, sym, ap, ◌∙◌}
use mathlib.Core.Logic.{◌↔◌}
use mathlib.Core.Bool.{cond}
use mathlib.Core.List.{List, [], ◌∷◌, ◌++◌, map, append-nil, append_assoc}
use borrow.Author.Tests.{lt-ltb, le-ltb, le-leb, lt-leb}
use lib.Dec.{leb}
use lib.ListN.{length, drop, replicate, length-take, length-drop}
use lib.Seq.{take_at, drop-append-le, drop-append-add}
use Rattle.plan.specs.Tree.{Forest, none, tree, count, labels, sizes, dists, from, children}
use Rattle.plan.specs.Table.{Table, table_of}
pub use Rattle.plan.specs.Table.{tree_of}
use Rattle.plan.specs.Verdict.{Verdict}
use Rattle.plan.specs.Verdict.{Passed, Failed}
use Rattle.plan.specs.Axes.{cell, row, nothing, refuse, asked, whole, parent, first_child, next_sibling, subtree_top, subtree, walk_start, Walked, child, ended, stopped, step, steps, top, later, starts, roots, parent_under, parent_in, first_child_in, next_sibling_in, subtree_in, children_in}
use Rattle.plan.proofs.Kit.{by_side}
use Rattle.plan.proofs.Columns.{length-sizes, length-dists, length-labels}
use Rattle.plan.proofs.Cells.{Holds, holds_itself, holds_front, holds_back}
use Rattle.plan.proofs.Kin.{Kin, among, kin}
use Rattle.plan.proofs.Sound.{TreeOf}
use Rattle.plan.proofs.Tests.{even_of, even_lengths, asked_of, asked-passed, whole_of, whole-passed, parent_of, sibling_of, step_end, step-child}

-- ---- a forest's rows
module _ {A : Type 0} where
  -- where one column stands before another, what is dropped of the first, or with it of the second
  drop-within : (xs ys g : List A) (p : ℕ) → p ≤ length xs → (zs : List A) × (drop p xs ≡ g ++ zs)
      → (zs : List A) × (drop p (xs ++ ys) ≡ g ++ zs)
  drop-within xs ys g p l w =
      (w.0 ++ ys, drop-append-le p xs ys l ∙ (ap (λ (z : List A). z ++ ys) w.1 ∙ append_assoc g w.0 ys))

  drop_past : (xs ys g : List A) (p m : ℕ) → length xs + m ≡ p → (zs : List A) × (drop m ys ≡ g ++ zs)
      → (zs : List A) × (drop p (xs ++ ys) ≡ g ++ zs)
  drop_past xs ys g p m e w =
      (w.0, ap (λ (i : ℕ). drop i (xs ++ ys)) (sym e) ∙ (drop-append-add xs ys m ∙ w.1))

  -- the labels from a row on start with those of its subtree
  labels_from : (f : Forest A) (p : ℕ) → p < count f
      → (zs : List A) × (drop p (labels f) ≡ labels (top (from f p)) ++ zs)
  unfolding from
  labels_from none p l = absurd (omega arith)
  labels_from (tree a k r) zero l = (labels r, rw (append-nil (labels k)))
  labels_from (tree a k r) (suc p) l =
      by_side p (count k)
      (λ i. rw (lt-ltb p (count k) i)
      (drop-within (labels k) (labels r) (labels (top (from k p))) p (omega (arith, length-labels k))
      (labels_from k p i)))
      (λ i. rw (le-ltb p (count k) i)
      (drop_past (labels k) (labels r) (labels (top (from r (p - count k)))) p (p - count k)
      (omega (arith, length-labels k)) (labels_from r (p - count k) (omega arith))))

  count-top : (g : Forest A) → 1 ≤ count (top g) → count (top g) ≡ suc (count (children g))
  count-top none l = absurd (omega arith)
  count-top (tree a k r) l = omega arith

-- ---- the steps of a walk
-- at its end, and so also where it was refused at its start, a walk gives none for ever
pub walk_end : (size : List ℕ) (e j : ℕ) → steps j size e e ≡ replicate j ended
unfolding steps
walk_end size e zero = refl
walk_end size e (suc j) = rw (step_end size e e refl, walk_end size e j)

-- what a step gives at a child
abbrev pub given_by : List ℕ → ℕ → Walked
given_by size c = child c (c + cell size c)

-- over a forest up to its end, a walk gives the rows of the roots, and then none
walk_roots : {A : Type 0} (size : List ℕ) (f : Forest A) (b e j : ℕ) → Holds (cell size) (sizes f) b → b + count f ≡ e
    → steps (length (roots f b) + j) size b e ≡ map (given_by size) (roots f b) ++ replicate j ended
unfolding steps
walk_roots size none b e j h i =
    let q : b ≡ e = omega arith in
    rw (zero-add j, q) (walk_end size e j)
walk_roots size (tree a k r) b e j h i =
    let next : b + cell size b ≡ b + suc (count k) = omega arith in
    let m : ℕ = length (roots r (b + suc (count k))) + j in
    rw (suc-add (length (roots r (b + suc (count k)))) j, step-child size b e (omega arith) (omega arith))
    (ap (λ (w : List Walked). given_by size b ∷ w) (ap (λ (c : ℕ). steps m size c e) next
    ∙ walk_roots size r (b + suc (count k)) e j
    (holds_back (cell size) (sizes k) (sizes r) (b + 1) (b + suc (count k)) (omega (arith, length-sizes k)) h.1)
    (omega arith)))

-- ---- the tree of root a and children k
module _ (a : ℕ) (k : Forest ℕ) where
  abbrev T : Forest ℕ
  T = tree a k none

  abbrev D : ℕ → ℕ
  D = cell (dists 1 T)

  abbrev S : ℕ → ℕ
  S = cell (sizes T)

  -- a row that is not the root
  pub kin_of : (p : ℕ) → p < count k → Kin S D (suc (count k)) (suc p) (parent_in T (suc p)) (from T (suc p))
  unfolding parent_under from
  kin_of p l =
      rw (lt-ltb p (count k) l) (among S D (1 + count k) _ (1 + p) _ _ _ (omega arith) (omega arith)
      (kin S D k 0 1 1 refl (omega arith) (omega arith)
      (holds_front S (sizes k) [] 1 (holds_itself (sizes T) (sizes T) refl).1)
      (holds_front D (dists 1 k) [] 1 (holds_itself (dists 1 T) (dists 1 T) refl).1)
      (λ y i j. absurd (omega arith)) p l))

  -- each row's size: its subtree's count, within the table
  size_of : (r : ℕ) → r < count T → (S r ≡ count (top (from T r))) × (1 ≤ S r) × (r + S r ≤ count T)
  unfolding from
  size_of zero l = omega arith
  size_of (suc p) l = let w = kin_of p (omega arith) in omega (arith, w.size, w.some, w.ends)

  kids_of : (r : ℕ) → r < count T → Holds S (sizes (children (from T r))) (r + 1)
  unfolding from
  kids_of zero l = holds_front S (sizes k) [] 1 (holds_itself (sizes T) (sizes T) refl).1
  kids_of (suc p) l = (kin_of p (omega arith)).kids

  asked-tree : (r : ℕ) → r < count T → asked (table_of T) r ≡ Passed
  asked-tree r l =
      asked_of (table_of T) r
      (even_of (table_of T) (length-dists 1 T ∙ sym (length-sizes T)) (length-labels T ∙ sym (length-sizes T)))
      (omega (arith, length-sizes T))

  whole-tree : (r : ℕ) → r < count T → whole (table_of T) r ≡ Passed
  whole-tree r l =
      let w = size_of r l in
      whole_of (table_of T) r (asked-tree r l) w.1 (omega (arith, w.2, length-sizes T))

  parent-tree : (r : ℕ) → r < count T → parent (table_of T) r ≡ parent_in T r
  unfolding parent parent_under
  parent-tree zero l = rw (asked-tree zero l)
  parent-tree (suc p) l =
      let w = kin_of p (omega arith) in
      parent_of (table_of T) (suc p) w.parent (asked-tree (suc p) l) w.before w.far ∙ sym w.is

  -- of a tree g, whose first tree has s rows
  child_of : (g : Forest ℕ) (s x : ℕ) → s ≡ count (top g) → cond (leb 2 s) (row x) nothing ≡ starts (children g) x
  child_of none s x e = rw (lt-leb 2 s (omega arith))
  child_of (tree b none r) s x e = rw (lt-leb 2 s (omega arith))
  child_of (tree b (tree c j l) r) s x e = rw (le-leb 2 s (omega arith))

  first-child-tree : (r : ℕ) → r < count T → first_child (table_of T) r ≡ first_child_in T r
  unfolding first_child
  first-child-tree r l = rw (whole-tree r l) (child_of (from T r) (S r) (r + 1) (size_of r l).0)

  next_sibling-tree : (r : ℕ) → r < count T → next_sibling (table_of T) r ≡ next_sibling_in T r
  unfolding next_sibling from parent_under
  next_sibling-tree zero l = rw (parent-tree zero l)
  next_sibling-tree (suc p) l =
      let w = kin_of p (omega arith) in
      sibling_of (table_of T) (suc p) w.parent (S (suc p)) (w.parent + S w.parent)
      (parent-tree (suc p) l ∙ w.is) refl refl w.some
      (omega (arith, (size_of w.parent (omega (arith, w.before))).2, length-sizes T)) w.inside
      ∙ sym (w.sibling (suc p + S (suc p))) ∙ ap (λ (s : ℕ). starts (later (from T (suc p))) (suc p + s)) w.size

  subtree-tree : (r : ℕ) → r < count T → subtree (table_of T) r ≡ subtree_in T r
  unfolding subtree
  subtree-tree r l =
      let w = labels_from T r l in
      rw (whole-tree r l, (size_of r l).0, w.1)
      (take_at (subtree_in T r) w.0 (count (top (from T r))) (length-labels (top (from T r))))

  walk_tree : (r j : ℕ) → r < count T
      → steps (length (children_in T r) + j) (sizes T) (r + 1) (r + S r)
      ≡ map (given_by (sizes T)) (children_in T r) ++ replicate j ended
  walk_tree r j l =
      let w = size_of r l in
      walk_roots (sizes T) (children (from T r)) (r + 1) (r + S r) j (kids_of r l)
      (omega (arith, w.0, count-top (from T r) (omega (arith, w.0, w.1))))

module _ (t : Table) (h : TreeOf t) (r : ℕ) (l : r < length t.size) where
  row_of : r < count (tree_of h)
  row_of = omega (arith, length-sizes (tree_of h), ap (λ (u : Table). length u.size) h.is-table)

  pub parent-sound : parent t r ≡ parent_in (tree_of h) r
  parent-sound = rw h.is-table (parent-tree h.root h.kids r row_of)

  pub first-child-sound : first_child t r ≡ first_child_in (tree_of h) r
  first-child-sound = rw h.is-table (first-child-tree h.root h.kids r row_of)

  pub next_sibling-sound : next_sibling t r ≡ next_sibling_in (tree_of h) r
  next_sibling-sound = rw h.is-table (next_sibling-tree h.root h.kids r row_of)

  pub subtree-sound : subtree t r ≡ subtree_in (tree_of h) r
  subtree-sound = rw h.is-table (subtree-tree h.root h.kids r row_of)

  pub walk_sound : (j : ℕ) →
      let w = walk_start t r in
      let children = children_in (tree_of h) r in
      (w.answer ≡ row r)
      × (steps (length children + j) t.size w.next w.end
      ≡ map (given_by t.size) children ++ replicate j ended)
  unfolding walk_start
  walk_sound j =
      rw h.is-table
      (rw (whole-tree h.root h.kids r row_of) (refl, walk_tree h.root h.kids r j row_of))

-- ---- refusals of a walk
-- refused at its start: each step gives none
pub walk_refused : (t : Table) (r number place count j : ℕ) → whole t r ≡ Failed number place count →
    let w = walk_start t r in
    (w.answer ≡ refuse number place) × (steps j t.size w.next w.end ≡ replicate j ended)
unfolding walk_start
walk_refused t r number place count j h = rw h (refl, walk_end t.size 0 j)

-- refused at a candidate: it stays there
pub walk_stays : (size : List ℕ) (c e number place j : ℕ) → step size c e ≡ stopped number place
    → steps j size c e ≡ replicate j (stopped number place)
unfolding steps
walk_stays size c e number place zero h = refl
walk_stays size c e number place (suc j) h = rw (h, walk_stays size c e number place j h)

-- ---- the two calls on a subtree
-- a part handed back is as long as the row's size, which is at least 1; then the other call answers the row
pub subtree-whole : (t : Table) (r : ℕ) → whole t r ≡ Passed
    → (subtree_top t r ≡ row r) × (length (subtree t r) ≡ cell t.size r) × (1 ≤ cell t.size r)
unfolding subtree_top subtree
subtree-whole t r h =
    let w = whole-passed t r h in
    let l = even_lengths t (asked-passed t r w.0).0 in
    rw h (refl, simp (length-take, length-drop) (omega (arith, w.2, l.1)), w.1)

-- a refused one hands back the empty part
pub subtree_failed : (t : Table) (r number place count : ℕ) → whole t r ≡ Failed number place count
    → (subtree_top t r ≡ refuse number place) × (subtree t r ≡ [])
unfolding subtree_top subtree
subtree_failed t r number place count h = rw h (refl, refl)

-- so the part is the empty one exactly where the other call refuses
abbrev Refused : Table → ℕ → Type 0
Refused t r = (number : ℕ) × (place : ℕ) × (subtree_top t r ≡ refuse number place)

pub subtree-refused : (t : Table) (r : ℕ) → (subtree t r ≡ []) ↔ Refused t r
subtree-refused t r = (to (whole t r) refl, back (whole t r) refl)
  where
    to : (v : Verdict) → whole t r ≡ v → subtree t r ≡ [] → Refused t r
    to Passed e h = let w = subtree-whole t r e in absurd (omega (arith, w.1, w.2, ap length h))
    to (Failed number place count) e h = (number, place, (subtree_failed t r number place count e).0)

    back : (v : Verdict) → whole t r ≡ v → Refused t r → subtree t r ≡ []
    back Passed e h = let z : ◌≡◌ {A = ℕ} 0 1 = cc (h.2, (subtree-whole t r e).0) in absurd (omega arith)
    back (Failed number place count) e h = (subtree_failed t r number place count e).1
