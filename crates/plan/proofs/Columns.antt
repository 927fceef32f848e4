-- Laws of the columns of a forest: how long they are, of one forest beside another, with other labels, from a row on.
-- Assumes nothing.
use Prim.Native.Nat.{ℕ, suc, ◌+◌}
use native.Mathlib.Omega.{arith}
use native.Mathlib.Nat.{add-zero}
use mathlib.Core.Path.{◌≡◌, refl, ap, ◌∙◌}
use mathlib.Core.List.{◌++◌, map, map-append, append_assoc}
use lib.ListN.{length, length-append}
use Rattle.plan.specs.Tree.{Forest, none, tree, count, labels, sizes, dists, ◌⊕◌, relabel}

module _ {A : Type 0} where
  pub length-sizes : (f : Forest A) → length (sizes f) ≡ count f
  length-sizes none = refl
  length-sizes (tree a k r) = ap suc (length-append (sizes k) (sizes r) ∙ cc (length-sizes k, length-sizes r))

  pub length-dists : (d : ℕ) (f : Forest A) → length (dists d f) ≡ count f
  length-dists d none = refl
  length-dists d (tree a k r) =
      ap suc (length-append (dists 1 k) (dists (d + suc (count k)) r) ∙ cc
      (length-dists 1 k, length-dists (d + suc (count k)) r))

  pub length-labels : (f : Forest A) → length (labels f) ≡ count f
  length-labels none = refl
  length-labels (tree a k r) = ap suc (length-append (labels k) (labels r) ∙ cc (length-labels k, length-labels r))

  pub count_beside : (f g : Forest A) → count (f ⊕ g) ≡ count f + count g
  count_beside none g = omega arith
  count_beside (tree a k r) g = omega (arith, count_beside r g)

  pub beside_none : (f : Forest A) → f ⊕ none ≡ f
  beside_none none = refl
  beside_none (tree a k r) = ap (tree a k) (beside_none r)

  pub beside_assoc : (f g h : Forest A) → (f ⊕ g) ⊕ h ≡ f ⊕ (g ⊕ h)
  beside_assoc none g h = refl
  beside_assoc (tree a k r) g h = ap (tree a k) (beside_assoc r g h)

  pub sizes_beside : (f g : Forest A) → sizes (f ⊕ g) ≡ sizes f ++ sizes g
  sizes_beside none g = refl
  sizes_beside (tree a k r) g = rw (sizes_beside r g, append_assoc (sizes k) (sizes r) (sizes g))

  pub labels_beside : (f g : Forest A) → labels (f ⊕ g) ≡ labels f ++ labels g
  labels_beside none g = refl
  labels_beside (tree a k r) g = rw (labels_beside r g, append_assoc (labels k) (labels r) (labels g))

  pub dists_beside : (d : ℕ) (f g : Forest A) → dists d (f ⊕ g) ≡ dists d f ++ dists (d + count f) g
  dists_beside d none g = rw add-zero
  dists_beside d (tree a k r) g =
      let e : d + suc (count k) + count r ≡ d + suc (count k + count r) = omega arith in
      let m : ℕ = d + suc (count k + count r) in
      rw (dists_beside (d + suc (count k)) r g, e, append_assoc (dists 1 k) (dists (d + suc (count k)) r) (dists m g))

-- labels have no part in the other columns
module _ {A B : Type 0} (φ : A → B) where
  pub count-relabel : (f : Forest A) → count (relabel φ f) ≡ count f
  count-relabel none = refl
  count-relabel (tree a k r) = ap suc (cc (count-relabel k, count-relabel r))

  pub sizes-relabel : (f : Forest A) → sizes (relabel φ f) ≡ sizes f
  sizes-relabel none = refl
  sizes-relabel (tree a k r) = rw (count-relabel k, sizes-relabel k, sizes-relabel r)

  pub dists-relabel : (d : ℕ) (f : Forest A) → dists d (relabel φ f) ≡ dists d f
  dists-relabel d none = refl
  dists-relabel d (tree a k r) = rw (count-relabel k, dists-relabel 1 k, dists-relabel (d + suc (count k)) r)

  pub labels-relabel : (f : Forest A) → labels (relabel φ f) ≡ map φ (labels f)
  labels-relabel none = refl
  labels-relabel (tree a k r) =
      rw (labels-relabel k, labels-relabel r, map-append φ (labels k) (labels r))

  pub beside_relabel : (f g : Forest A) → relabel φ (f ⊕ g) ≡ relabel φ f ⊕ relabel φ g
  beside_relabel none g = refl
  beside_relabel (tree a k r) g = ap (tree (φ a) (relabel φ k)) (beside_relabel r g)
