-- What a call answers about a row that passed its tests: the definitions' answer, test by test as the code makes them.
-- Assumes nothing.
use Rattle.std.proofs.Common.{◌≡◌, ℕ, ◌+◌, ◌-◌, ◌<◌, ◌≤◌, List, length, Ok, take, drop, refl, sym, ap, ◌∙◌, arith, le-ltb, lt-ltb, le-leb}
use borrow.Author.Tests.{lt-leb}
use lib.ListN.{get_or-eq_default}
use Rattle.plan.specs.Table.{Table}
use Rattle.plan.specs.Axes.{cell, row, nothing, refuse, parent, first_child, next_sibling, subtree_top, subtree, walk_start, child, stopped, step}
use Rattle.plan.proofs.Kit.{by_place}
use Rattle.plan.proofs.Tests.{reply-passed, reply_failed, whole_small, whole-past, whole_of, parent-root, parent_small, parent-past, parent_of, sibling_small, sibling_long, sibling_past, sibling_of, step_small, step_past, step-child}
use Rattle.plan.specs.Told.{start_told}
use Rattle.table.proofs.Told.{RowIn, TopIn, ParentIn, top-told}

-- ---- a row x of columns of one length
module _ (t : Table) (r x : ℕ) (w : RowIn t r x) where
  here : cell t.dist r ≡ cell t.dist x
  here = sym (ap (cell t.dist) w.same)

  pub parent-is-none : x ≡ 0 → nothing ≡ parent t r
  parent-is-none z = sym (parent-root t r w.tests (omega (arith, w.same)))

  pub parent_too_near : (x ≡ 0 → ⊥) → cell t.dist x ≡ 0 → refuse 12 r ≡ parent t r
  parent_too_near n z = sym (parent_small t r w.tests (omega (arith, w.same)) (here ∙ z))

  pub parent_too_far : (x ≡ 0 → ⊥) → x < cell t.dist x → refuse 12 r ≡ parent t r
  parent_too_far n l =
      sym (parent-past t r w.tests (omega (arith, w.same)) (omega (arith, w.same, here)))

  pub parent_is : (x ≡ 0 → ⊥) → (cell t.dist x ≡ 0 → ⊥) → cell t.dist x ≤ x → row (x - cell t.dist x) ≡ parent t r
  parent_is n z l =
      sym (parent_of t r (x - cell t.dist x) w.tests (omega (arith, w.same)) (omega (arith, w.same, here)))

  size-here : cell t.size r ≡ cell t.size x
  size-here = sym (ap (cell t.size) w.same)

  pub top_small : cell t.size x ≡ 0 → refuse 12 r ≡ subtree_top t r
  unfolding subtree_top
  top_small z = reply_failed _ _ 12 r 0 (whole_small t r w.tests (size-here ∙ z))

  pub top-past : length t.size - x < cell t.size x → refuse 12 r ≡ subtree_top t r
  unfolding subtree_top
  top-past l =
      reply_failed _ _ 12 r 0
      (whole-past t r w.tests (omega (arith, w.same, w.within, size-here)))

  pub top-is : (cell t.size x ≡ 0 → ⊥) → cell t.size x ≤ length t.size - x → row x ≡ subtree_top t r
  unfolding subtree_top
  top-is some fits =
      ap row w.same
      ∙ reply-passed _ (row r)
      (whole_of t r w.tests (omega (arith, size-here)) (omega (arith, w.same, w.within, size-here)))

-- ---- where the subtree lies in the table
module _ (t : Table) (r x : ℕ) (w : TopIn t r x) where
  top-here : cell t.size r ≡ cell t.size x
  top-here = size-here t r x w.row_in

  pub top-ends : x + cell t.size x ≤ length t.size
  top-ends = omega (arith, w.fits, w.row_in.same, top-here)

  pub child-is-none : cell t.size x < 2 → nothing ≡ first_child t r
  unfolding first_child
  child-is-none l = rw (w.tests, top-here, lt-leb 2 _ l)

  pub child-is : 2 ≤ cell t.size x → row (x + 1) ≡ first_child t r
  unfolding first_child
  child-is l = rw (w.tests, top-here, le-leb 2 _ l, w.row_in.same)

  pub part-is : (e : ℕ) → e ≡ x + cell t.size x → take (e - x) (drop x t.value) ≡ subtree t r
  unfolding subtree
  part-is e i =
      let j : e - x ≡ cell t.size x = omega arith in
      rw (w.tests, top-here, j, w.row_in.same)

  pub start_is : start_told (Ok (record { top = x; next = x + 1; end = x + cell t.size x })) ≡ walk_start t r
  unfolding walk_start
  start_is = rw (w.tests, top-here, w.row_in.same)

-- and so where the subtree is answered
pub start_row : (t : Table) (r x : ℕ) → row x ≡ subtree_top t r
    → start_told (Ok (record { top = x; next = x + 1; end = x + cell t.size x })) ≡ walk_start t r
start_row t r x h = start_is t r x (top-told t r x h)

-- ---- with a parent q: the row has the size s, and the parent ends before e
module _ (t : Table) (r q s e : ℕ) (w : ParentIn t r q) (own : s ≡ cell t.size r) (end_of : e ≡ q + cell t.size q) where
  pub sibling_empty : s ≡ 0 → refuse 12 r ≡ next_sibling t r
  sibling_empty n = sym (sibling_small t r q s e w.is own end_of n)

  module _ (some : s ≡ 0 → ⊥) where
    pub sibling_too_long : length t.size < e → refuse 12 r ≡ next_sibling t r
    sibling_too_long l = sym (sibling_long t r q s e w.is own end_of (omega arith) l)

    pub sibling_too_far : e ≤ length t.size → e < r + s → refuse 12 r ≡ next_sibling t r
    sibling_too_far l p =
        sym (sibling_past t r q s e w.is own end_of (omega arith) l (omega arith))

    pub sibling_is_none : e ≤ length t.size → r + s ≡ e → nothing ≡ next_sibling t r
    sibling_is_none l p =
        rw (
          sibling_of t r q s e w.is own end_of (omega arith) l (omega arith),
          le-ltb (r + s) e (omega arith),
        )

    pub sibling_is : e ≤ length t.size → r + s ≤ e → (r + s ≡ e → ⊥) → row (r + s) ≡ next_sibling t r
    sibling_is l p n =
        rw (
          sibling_of t r q s e w.is own end_of (omega arith) l (omega arith),
          lt-ltb (r + s) e (omega arith),
        )

-- ---- a candidate c of the size s, in a walk that ends at e
module _ (S : List ℕ) (c e s : ℕ) (h : s ≡ cell S c) (n : c ≡ e → ⊥) where
  pub step_empty : s ≡ 0 → stopped 12 c ≡ step S c e
  step_empty z = sym (step_small S c e n (omega arith))

  pub step_too_far : (s ≡ 0 → ⊥) → e < c + s → stopped 12 c ≡ step S c e
  step_too_far some l = sym (step_past S c e n (omega arith) (omega arith))

  pub step_is : (s ≡ 0 → ⊥) → c + s ≤ e → child c (c + s) ≡ step S c e
  step_is some l = ap (λ (k : ℕ). child c (c + k)) h ∙ sym (step-child S c e (omega arith) (omega arith))

-- a candidate past the end
pub step_past_end : (S : List ℕ) (c e : ℕ) → e < c → stopped 12 c ≡ step S c e
step_past_end S c e l =
    by_place 0 (cell S c)
    (λ k. step_too_far S c e (cell S c) refl (λ i. omega arith) (λ z. omega arith) (omega arith))
    (λ z. step_empty S c e (cell S c) refl (λ i. omega arith) (sym z)) (λ k. absurd (omega arith))

-- past the last row no size is written
pub size-past : (S : List ℕ) (c : ℕ) → length S ≤ c → 0 ≡ cell S c
size-past S c l = sym (get_or-eq_default S 0 l)
