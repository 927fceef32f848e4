-- Ordered trees, and the columns that a walk in preorder gives. A label is whatever a row carries.
-- Assumes nothing.
use Rattle.std.specs.Prelude.{ℕ, zero, suc, ◌+◌, ◌-◌, Bool, true, false, cond, List, [], ◌∷◌, ◌++◌, ltb}

-- a forest: nothing, or a first tree (its label and its children) and the trees after it
pub data Forest (A : Type 0) : Type 0 where
  none : Forest A
  tree : (label : A) (kids rest : Forest A) → Forest A

module _ {A : Type 0} where
  -- how many nodes
  abbrev pub count : Forest A → ℕ
  count none = zero
  count (tree a kids rest) = suc (count kids + count rest)

  -- each row's label
  abbrev pub labels : Forest A → List A
  labels none = []
  labels (tree a kids rest) = a ∷ labels kids ++ labels rest

  -- each row's size: the nodes of its subtree, itself included
  abbrev pub sizes : Forest A → List ℕ
  sizes none = []
  sizes (tree a kids rest) = suc (count kids) ∷ sizes kids ++ sizes rest

  -- each row's distance: its row number less its parent's; the first tree stands d rows behind its parent
  abbrev pub dists : ℕ → Forest A → List ℕ
  dists d none = []
  dists d (tree a kids rest) = d ∷ dists 1 kids ++ dists (d + suc (count kids)) rest

  -- one row of trees after another
  infixr 60 ◌⊕◌
  abbrev pub ◌⊕◌ : Forest A → Forest A → Forest A
  none ⊕ g = g
  tree a kids rest ⊕ g = tree a kids (rest ⊕ g)

  -- the forest that starts at row p: the tree there and its later siblings
  unfoldable pub from : Forest A → ℕ → Forest A
  from none p = none
  from (tree a kids rest) zero = tree a kids rest
  from (tree a kids rest) (suc p) = cond (ltb p (count kids)) (from kids p) (from rest (p - count kids))

  -- the whole forest, with that part changed by g
  unfoldable pub at : (Forest A → Forest A) → Forest A → ℕ → Forest A
  at g none p = none
  at g (tree a kids rest) zero = g (tree a kids rest)
  at g (tree a kids rest) (suc p) =
      cond (ltb p (count kids)) (tree a (at g kids p) rest) (tree a kids (at g rest (p - count kids)))

  -- the children of the first tree
  abbrev pub children : Forest A → Forest A
  children none = none
  children (tree a kids rest) = kids

  -- is it one tree?
  unfoldable pub is_tree : Forest A → Bool
  is_tree none = false
  is_tree (tree a kids none) = true
  is_tree (tree a kids (tree b k r)) = false

-- the same trees with other labels
module _ {A B : Type 0} (φ : A → B) where
  abbrev pub relabel : Forest A → Forest B
  relabel none = none
  relabel (tree a kids rest) = tree (φ a) (relabel kids) (relabel rest)
