-- A tree's columns, read back, give the tree. A row's children are the trees that fill the rows which its size counts,
-- and with the sizes of a forest these are just its children.
-- Assumes nothing.
use Prim.Native.Nat.{ℕ, zero, suc, ◌+◌, ◌-◌}
use native.Mathlib.Omega.{arith}
use mathlib.Core.Path.{◌≡◌, refl, sym, ap, ◌∙◌}
use mathlib.Core.List.{List, [], ◌∷◌, ◌++◌, map, append_assoc, append-nil}
use lib.ListN.{length, take}
use Rattle.plan.specs.Tree.{Forest, none, tree, count, labels, sizes, ◌⊕◌, relabel}
use Rattle.plan.specs.Table.{first, behind, spelled}
use Rattle.plan.proofs.Columns.{count-relabel, beside_none}

module _ {A : Type 0} where
  first-none : (g : Forest A) → first g 0 ≡ none
  unfolding first
  first-none none = refl
  first-none (tree a k r) = refl

  first_beside : (f g : Forest A) → first (f ⊕ g) (count f) ≡ f
  unfolding first
  first_beside none g = first-none g
  first_beside (tree a k r) g =
      let e : count k + count r - count k ≡ count r = omega arith in
      rw (e, first_beside r g)

  behind-none : (g : Forest A) → behind g 0 ≡ g
  unfolding behind
  behind-none none = refl
  behind-none (tree a k r) = refl

  behind_beside : (f g : Forest A) → behind (f ⊕ g) (count f) ≡ g
  unfolding behind
  behind_beside none g = behind-none g
  behind_beside (tree a k r) g =
      let e : count k + count r - count k ≡ count r = omega arith in
      rw (e, behind_beside r g)

  -- the columns of a forest in front of others
  pub spelled_beside : (f : Forest A) (ss : List ℕ) (ls : List A)
      → spelled (sizes f ++ ss) (labels f ++ ls) ≡ f ⊕ spelled ss ls
  unfolding spelled
  spelled_beside none ss ls = refl
  spelled_beside (tree a k r) ss ls =
      let g : Forest A = r ⊕ spelled ss ls in
      let e : suc (count k) - 1 ≡ count k = omega arith in
      rw (
        append_assoc (sizes k) (sizes r) ss,
        append_assoc (labels k) (labels r) ls,
        spelled_beside k (sizes r ++ ss) (labels r ++ ls),
        spelled_beside r ss ls,
        e,
        first_beside k g,
        behind_beside k g,
      )

  pub read_back : (f : Forest A) → spelled (sizes f) (labels f) ≡ f
  unfolding spelled
  read_back f =
      rw (append-nil (sizes f), append-nil (labels f)) at (spelled_beside f [] []) ∙ beside_none f

  -- sizes and labels decide the forest
  pub decide : (f g : Forest A) → sizes f ≡ sizes g → labels f ≡ labels g → f ≡ g
  decide f g s l = sym (read_back f) ∙ (rw (s, l) (read_back g))

  -- the labels that are read
  first-behind : (f : Forest A) (n : ℕ) → labels (first f n) ++ labels (behind f n) ≡ labels f
  unfolding first behind
  first-behind none n = refl
  first-behind (tree a k r) zero = refl
  first-behind (tree a k r) (suc n) =
      rw (
        append_assoc (labels k) (labels (first r (n - count k))) (labels (behind r (n - count k))),
        first-behind r
            (n - count k),
      )

  pub labels-spelled : (ss : List ℕ) (ls : List A) → labels (spelled ss ls) ≡ take (length ss) ls
  unfolding spelled
  labels-spelled [] ls = refl
  labels-spelled (s ∷ ss) [] = refl
  labels-spelled (s ∷ ss) (a ∷ ls) =
      let f : Forest A = spelled ss ls in
      ap (λ (xs : List A). a ∷ xs) (first-behind f (s - 1) ∙ labels-spelled ss ls)

  -- as many rows as the columns have
  count_split : (f : Forest A) (n : ℕ) → count (first f n) + count (behind f n) ≡ count f
  unfolding first behind
  count_split none n = refl
  count_split (tree a k r) zero = omega arith
  count_split (tree a k r) (suc n) = omega (arith, count_split r (n - count k))

  pub count-spelled : (ss : List ℕ) (ls : List A) → length ss ≡ length ls → count (spelled ss ls) ≡ length ss
  unfolding spelled
  count-spelled [] ls e = refl
  count-spelled (s ∷ ss) [] e = absurd (omega arith)
  count-spelled (s ∷ ss) (a ∷ ls) e =
      let f : Forest A = spelled ss ls in
      omega (arith, count_split f (s - 1), count-spelled ss ls (omega arith))

-- labels have no part in the reading
module _ {A B : Type 0} (φ : A → B) where
  first-relabel : (f : Forest A) (n : ℕ) → relabel φ (first f n) ≡ first (relabel φ f) n
  unfolding first
  first-relabel none n = refl
  first-relabel (tree a k r) zero = refl
  first-relabel (tree a k r) (suc n) = rw (count-relabel φ k, first-relabel r (n - count k))

  behind-relabel : (f : Forest A) (n : ℕ) → relabel φ (behind f n) ≡ behind (relabel φ f) n
  unfolding behind
  behind-relabel none n = refl
  behind-relabel (tree a k r) zero = refl
  behind-relabel (tree a k r) (suc n) =
      behind-relabel r (n - count k) ∙ ap (λ (m : ℕ). behind (relabel φ r) (n - m)) (sym (count-relabel φ k))

  pub spelled-relabel : (ss : List ℕ) (ls : List A) → relabel φ (spelled ss ls) ≡ spelled ss (map φ ls)
  unfolding spelled
  spelled-relabel [] ls = refl
  spelled-relabel (s ∷ ss) [] = refl
  spelled-relabel (s ∷ ss) (a ∷ ls) =
      let f : Forest A = spelled ss ls in
      rw (first-relabel f (s - 1), behind-relabel f (s - 1), spelled-relabel ss ls)
