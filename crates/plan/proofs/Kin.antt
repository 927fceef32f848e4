-- Each row of a tree's table but the root's: its parent, what its distance and size say, and whether a sibling follows.
-- One induction over the forest that stands at rows b, b + 1, .. and whose trees are children of row q.
-- Assumes nothing.
use Prim.Native.Nat.{ℕ, zero, suc, ◌+◌, ◌-◌, ◌≤◌, ◌<◌}
use native.Mathlib.Omega.{arith}
use mathlib.Core.Path.{◌≡◌, refl, ap, subst}
use mathlib.Core.Bool.{cond}
use borrow.Author.Tests.{lt-ltb, le-ltb}
use lib.Dec.{ltb}
use Rattle.plan.specs.Tree.{Forest, none, tree, count, sizes, dists, from, children}
use Rattle.plan.specs.Axes.{Reply, row, nothing, top, later, starts, parent_under}
use Rattle.plan.proofs.Kit.{by_place, by_side}
use Rattle.plan.proofs.Columns.{length-sizes, length-dists}
use Rattle.plan.proofs.Cells.{Holds, holds_front, holds_back}

-- row z, with sizes s and distances d, among rows that end at e; u is its parent, g the tree at it with those after it
pub record Kin {A : Type 0} (s d : ℕ → ℕ) (e z : ℕ) (u : Reply) (g : Forest A) : Type 0 where
  pub parent : ℕ
  pub is : u ≡ row parent
  pub before : parent < z
  pub far : parent + d z ≡ z
  pub some : 1 ≤ s z
  pub size : s z ≡ count (top g)
  pub inside : z + s z ≤ parent + s parent
  pub ends : z + s z ≤ e
  pub closed : (y : ℕ) → parent < y → y < z → y + s y ≤ z
  pub kids : Holds s (sizes (children g)) (z + 1)
  pub sibling : (x : ℕ) → starts (later g) x ≡ cond (ltb (z + s z) (parent + s parent)) (row x) nothing

module _ {A : Type 0} (s d : ℕ → ℕ) where
  wider : (e f z : ℕ) (u : Reply) (g : Forest A) → e ≤ f → Kin s d e z u g → Kin s d f z u g
  wider e f z u g l w =
      record {
        parent = w.parent;
        is = w.is;
        before = w.before;
        far = w.far;
        some = w.some;
        size = w.size;
        inside = w.inside;
        ends = omega (arith, w.ends);
        closed = w.closed;
        kids = w.kids;
        sibling = w.sibling;
      }

  -- the same row, among more rows
  pub among : (e f y z : ℕ) (u : Reply) (g : Forest A) → e ≤ f → y ≡ z → Kin s d e y u g → Kin s d f z u g
  among e f y z u g l i w = subst (λ (x : ℕ). Kin s d f x u g) i (wider e f y u g l w)

  -- is there a tree after the first of those up to the parent's end?
  follows : (rest : Forest A) (z e x : ℕ) → z + count rest ≡ e → starts rest x ≡ cond (ltb z e) (row x) nothing
  follows none z e x h = rw (le-ltb z e (omega arith))
  follows (tree a k r) z e x h = rw (lt-ltb z e (omega arith))

  -- every row of a forest that stands at b and whose trees are children of q
  abbrev Kins : Forest A → (q b : ℕ) → Type 0
  Kins f q b = (p : ℕ) → p < count f → Kin s d (b + count f) (b + p) (parent_under f (row q) b p) (from f p)

  module _ (a : A) (kids rest : Forest A) (q b : ℕ) where
    -- the first row
    first-row : (k : ℕ) → q + k ≡ b → q < b → b + suc (count kids + count rest) ≡ q + s q
        → s b ≡ suc (count kids) → d b ≡ k → Holds s (sizes kids) (b + 1)
        → ((y : ℕ) → q < y → y < b → y + s y ≤ b)
        → Kin s d (b + count (tree a kids rest)) b (row q) (tree a kids rest)
    first-row k far l e hs hd hk c =
        record {
          parent = q;
          is = refl;
          before = l;
          far = omega arith;
          some = omega arith;
          size = omega arith;
          inside = omega arith;
          ends = omega arith;
          closed = c;
          kids = hk;
          sibling = λ x. follows rest (b + s b) (q + s q) x (omega arith);
        }

    -- no row before the trees after it reaches into them
    closed-first : s b ≡ suc (count kids) → Kins kids b (b + 1) → ((y : ℕ) → q < y → y < b → y + s y ≤ b)
        → (y : ℕ) → q < y → y < b + suc (count kids) → y + s y ≤ b + suc (count kids)
    closed-first hs in_kids c y v w =
        by_place y b (λ j. omega (arith, c y v j)) (λ j. omega (arith, ap s j))
        (λ j. let h : b + 1 + (y - (b + 1)) ≡ y = omega arith in
        omega (arith, (in_kids (y - (b + 1)) (omega arith)).ends, ap s h))

    -- the rows behind the first are the children's and those of the trees after it
    other-rows : Kins kids b (b + 1) → Kins rest q (b + suc (count kids)) → (p : ℕ) → suc p < count (tree a kids rest)
        → Kin s d (b + count (tree a kids rest)) (b + suc p) (parent_under (tree a kids rest) (row q) b (suc p))
        (from (tree a kids rest) (suc p))
    unfolding parent_under from
    other-rows in_kids in_rest p m =
        let n : ℕ = count kids in
        by_side p n
        (λ i. rw (lt-ltb p n i) (among (b + 1 + n) _ (b + 1 + p) _ _ _ (omega arith) (omega arith) (in_kids p i)))
        (λ i. rw (le-ltb p n i)
        (among (b + suc n + count rest) _ (b + suc n + (p - n)) _ _ _ (omega arith) (omega arith)
        (in_rest (p - n) (omega arith))))

    all_rows : Kin s d (b + count (tree a kids rest)) b (row q) (tree a kids rest) → Kins kids b (b + 1)
        → Kins rest q (b + suc (count kids)) → Kins (tree a kids rest) q b
    unfolding parent_under from
    all_rows here in_kids in_rest zero m =
        let e : b ≡ b + 0 = omega arith in
        subst (λ (z : ℕ). Kin s d (b + count (tree a kids rest)) z (row q) (tree a kids rest)) e here
    all_rows here in_kids in_rest (suc p) m = other-rows in_kids in_rest p m

  pub kin : (f : Forest A) (q b k : ℕ) → q + k ≡ b → q < b → b + count f ≡ q + s q
      → Holds s (sizes f) b → Holds d (dists k f) b → ((y : ℕ) → q < y → y < b → y + s y ≤ b) → Kins f q b
  kin none q b k far l e hs hd c = λ p m. absurd (omega arith)
  kin (tree a kids rest) q b k far l e hs hd c =
      let n : ℕ = count kids in
      let hk : Holds s (sizes kids) (b + 1) = holds_front s (sizes kids) (sizes rest) (b + 1) hs.1 in
      let in_kids : Kins kids b (b + 1) =
      kin kids b (b + 1) 1 refl (omega arith) (omega arith) hk
      (holds_front d (dists 1 kids) (dists (k + suc n) rest) (b + 1) hd.1)
      (λ y i j. absurd (omega arith)) in
      let in_rest : Kins rest q (b + suc n) =
      kin rest q (b + suc n) (k + suc n) (omega arith) (omega arith) (omega arith)
      (holds_back s (sizes kids) (sizes rest) (b + 1) (b + suc n) (omega (arith, length-sizes kids)) hs.1)
      (holds_back d (dists 1 kids) (dists (k + suc n) rest) (b + 1) (b + suc n)
      (omega (arith, length-dists 1 kids)) hd.1)
      (closed-first a kids rest q b hs.0 in_kids c) in
      all_rows a kids rest q b (first-row a kids rest q b k far l e hs.0 hd.0 hk c) in_kids in_rest
