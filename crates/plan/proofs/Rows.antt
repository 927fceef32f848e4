-- The columns of a forest, read at a row: the row itself, a row of its children, a row of the trees after it.
-- Assumes nothing.
use Prim.Native.Nat.{ℕ, zero, suc, ◌+◌, ◌-◌, ◌≤◌, ◌<◌}
use native.Mathlib.Omega.{arith}
use mathlib.Core.Path.{◌≡◌, refl, ap, ◌∙◌, subst}
use mathlib.Core.List.{List, ◌∷◌, ◌++◌}
use lib.ListN.{length, get_or, get_or-append}
use lib.Seq.{get_or-append-add}
use borrow.Author.Tests.{lt-ltb, le-ltb}
use Rattle.plan.specs.Tree.{Forest, none, tree, count, sizes, dists, from, children}
use Rattle.plan.proofs.Kit.{by_side}
use Rattle.plan.proofs.Columns.{length-sizes, length-dists}

-- a column whose first part has n rows
module _ {X : Type 0} (h d : X) (xs ys : List X) (n : ℕ) (e : length xs ≡ n) where
  pub read_kids : (x : ℕ) → x < n → get_or (h ∷ xs ++ ys) (suc x) d ≡ get_or xs x d
  read_kids x l = get_or-append xs ys d x (omega arith)

  pub read_rest : (x : ℕ) → n ≤ x → get_or (h ∷ xs ++ ys) (suc x) d ≡ get_or ys (x - n) d
  read_rest x l =
      let w : x ≡ length xs + (x - n) = omega arith in
      ap (λ (z : ℕ). get_or (xs ++ ys) z d) w ∙ get_or-append-add xs ys (x - n) d

module _ {A : Type 0} where
  pub from-kids : (a : A) (k r : Forest A) (x : ℕ) → x < count k → from (tree a k r) (suc x) ≡ from k x
  unfolding from
  from-kids a k r x l = rw (lt-ltb x (count k) l)

  pub from-rest : (a : A) (k r : Forest A) (x : ℕ) → count k ≤ x → from (tree a k r) (suc x) ≡ from r (x - count k)
  unfolding from
  from-rest a k r x l = rw (le-ltb x (count k) l)

  -- the children of the row x
  abbrev pub below : Forest A → ℕ → Forest A
  below f x = children (from f x)

  -- a row's subtree lies within the forest
  pub below_fits : (f : Forest A) (x : ℕ) → x < count f → x + suc (count (below f x)) ≤ count f
  unfolding from
  below_fits none x l = absurd (omega arith)
  below_fits (tree a k r) zero l = omega arith
  below_fits (tree a k r) (suc x) l =
      by_side x (count k)
      (λ m. rw (from-kids a k r x m) (omega (arith, below_fits k x m)))
      (λ m. rw (from-rest a k r x m) (omega (arith, below_fits r (x - count k) (omega arith))))

-- a column of forests, walked in preorder: a row's own entry, those of its children, those of the trees after it
pub record Column {A X : Type 0} (col : ℕ → Forest A → List X) (head : ℕ → A → Forest A → X) : Type 0 where
  pub walked : (d : ℕ) (a : A) (k r : Forest A) → col d (tree a k r) ≡ head d a k ∷ col 1 k ++ col (d + suc (count k)) r
  pub long : (d : ℕ) (f : Forest A) → length (col d f) ≡ count f

module _ {A X : Type 0} (z : X) (col : ℕ → Forest A → List X) (head : ℕ → A → Forest A → X) (c : Column col head) where
  pub column-kids : (d : ℕ) (a : A) (k r : Forest A) (x : ℕ) → x < count k
      → get_or (col d (tree a k r)) (suc x) z ≡ get_or (col 1 k) x z
  column-kids d a k r x l =
      ap (λ (xs : List X). get_or xs (suc x) z) (c.walked d a k r)
      ∙ read_kids (head d a k) z (col 1 k) (col (d + suc (count k)) r) (count k) (c.long 1 k) x l

  pub column-rest : (d : ℕ) (a : A) (k r : Forest A) (x : ℕ) → count k ≤ x
      → get_or (col d (tree a k r)) (suc x) z ≡ get_or (col (d + suc (count k)) r) (x - count k) z
  column-rest d a k r x l =
      ap (λ (xs : List X). get_or xs (suc x) z) (c.walked d a k r)
      ∙ read_rest (head d a k) z (col 1 k) (col (d + suc (count k)) r) (count k) (c.long 1 k) x l

  -- the column at row y of the children of row x
  pub column-below : (d : ℕ) (f : Forest A) (x y : ℕ) → x < count f → y < count (below f x)
      → get_or (col d f) (suc (x + y)) z ≡ get_or (col 1 (below f x)) y z
  unfolding from
  column-below d none x y l m = absurd (omega arith)
  column-below d (tree a k r) zero y l m =
      let e : 0 + y ≡ y = omega arith in
      rw e (column-kids d a k r y m)
  column-below d (tree a k r) (suc x) y l m =
      let e : suc x + y ≡ suc (x + y) = omega arith in
      by_side x (count k)
      (λ n.
      let o : y < count (below k x) = subst (λ (g : Forest A). y < count (children g)) (from-kids a k r x n) m in
      column-kids d a k r (suc x + y) (omega (arith, below_fits k x n))
      ∙ rw (e, from-kids a k r x n) (column-below 1 k x y n o))
      (λ n.
      let o : y < count (below r (x - count k)) = subst (λ (g : Forest A). y < count (children g))
      (from-rest a k r x n) m in
      let w : suc x + y - count k ≡ suc (x - count k + y) = omega arith in
      column-rest d a k r (suc x + y) (omega arith)
      ∙ rw (w, from-rest a k r x n) (column-below (d + suc (count k)) r (x - count k) y (omega arith) o))

module _ {A : Type 0} where
  abbrev pub size_column : ℕ → Forest A → List ℕ
  size_column d f = sizes f

  pub is-size : Column size_column (λ (d : ℕ) (a : A) (k : Forest A). suc (count k))
  is-size = record { walked = λ d a k r. refl; long = λ d f. length-sizes f }

  pub is-dist : Column {A = A} dists (λ (d : ℕ) (a : A) (k : Forest A). d)
  is-dist = record { walked = λ d a k r. refl; long = λ d f. length-dists d f }

  pub size-at : (f : Forest A) (x : ℕ) → x < count f → get_or (sizes f) x 0 ≡ suc (count (below f x))
  unfolding from
  size-at none x l = absurd (omega arith)
  size-at (tree a k r) zero l = refl
  size-at (tree a k r) (suc x) l =
      by_side x (count k)
      (λ m. column-kids 0 size_column _ is-size 0 a k r x m ∙ rw (from-kids a k r x m) (size-at k x m))
      (λ m. column-rest 0 size_column _ is-size 0 a k r x m ∙ rw (from-rest a k r x m)
      (size-at r (x - count k) (omega arith)))

  pub size_below : (f : Forest A) (x y : ℕ) → x < count f → y < count (below f x)
      → get_or (sizes f) (suc (x + y)) 0 ≡ get_or (sizes (below f x)) y 0
  size_below f x y l m = column-below 0 size_column _ is-size 0 f x y l m

  pub dist-below : (d : ℕ) (f : Forest A) (x y : ℕ) → x < count f → y < count (below f x)
      → get_or (dists d f) (suc (x + y)) 0 ≡ get_or (dists 1 (below f x)) y 0
  dist-below d f x y l m = column-below 0 dists _ is-dist d f x y l m
