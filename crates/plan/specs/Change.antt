-- What one change does to a tree, what a list of changes means, and which of its changes are vain.
-- Assumes nothing.
use Rattle.std.specs.Prelude.{ℕ, zero, suc, ◌+◌, ◌-◌, Bool, true, false, cond, ◌&&◌, ◌||◌, List, [], ◌∷◌, T, leb, ltb, eqb, get_or}
use Rattle.plan.specs.Tree.{Forest, none, tree, count, sizes, ◌⊕◌, from, at, children}

-- what becomes of the tree at a row
pub data Act (A : Type 0) : Type 0 where
  delete : Act A
  rename : (A → A) → Act A
  replace : Forest A → Act A

-- `insert p q s`: s becomes a child of row q, at row p. `act p x`: x becomes of the tree at row p
pub data Change (A : Type 0) : Type 0 where
  insert : (p q : ℕ) (s : Forest A) → Change A
  act : (p : ℕ) (x : Act A) → Change A

module _ {A : Type 0} where
  -- among siblings, is there a place x rows behind the start of the first: the start itself, or the end of one of them?
  unfoldable pub opens : Forest A → ℕ → Bool
  opens none x = eqb x 0
  opens (tree a kids rest) zero = true
  opens (tree a kids rest) (suc x) = leb (count kids) x && opens rest (x - count kids)

  -- s goes in there
  unfoldable pub put : Forest A → Forest A → ℕ → Forest A
  put s none x = s
  put s (tree a kids rest) zero = s ⊕ tree a kids rest
  put s (tree a kids rest) (suc x) = tree a kids (put s rest (x - count kids))

  -- p is an open place of row q
  unfoldable pub open_place : Forest A → (p q : ℕ) → Bool
  open_place t p q = ltb q p && opens (children (from t q)) (p - suc q)

  -- what stands in the place of the tree with label a and children k
  abbrev pub instead : Act A → A → Forest A → Forest A
  instead delete a k = none
  instead (rename h) a k = tree (h a) k none
  instead (replace s) a k = s

  abbrev pub acted : Act A → Forest A → Forest A
  acted x none = none
  acted x (tree a kids rest) = instead x a kids ⊕ rest

  abbrev pub joined : ℕ → Forest A → Forest A → Forest A
  joined x s none = none
  joined x s (tree a kids rest) = tree a (put s kids x) rest

  -- a single change
  abbrev pub single : Change A → Forest A → Forest A
  single (insert p q s) t = at (joined (p - suc q) s) t q
  single (act p x) t = at (acted x) t p

  -- the meaning of a list: single changes, the last first, each to the tree as it then is
  abbrev pub meaning : List (Change A) → Forest A → Forest A
  meaning [] t = t
  meaning (c ∷ cs) t = single c (meaning cs t)

  -- is it a legal change of this tree: does its row exist, and is its place open there?
  unfoldable pub legal : Forest A → Change A → Bool
  legal t (insert p q s) = ltb q (count t) && open_place t p q
  legal t (act p x) = ltb p (count t)

  -- each change of a list is, of the tree that those behind it lead to
  abbrev pub AllLegal : List (Change A) → Forest A → Type 0
  AllLegal [] t = Unit {0}
  AllLegal (c ∷ cs) t = T (legal (meaning cs t) c) × AllLegal cs t

  -- where it is made
  abbrev pub location : Change A → ℕ
  location (insert p q s) = p
  location (act p x) = p

  -- does it take the old rows away?
  abbrev pub removes : Act A → Bool
  removes delete = true
  removes (rename h) = false
  removes (replace s) = true

  -- is it lost with the old rows from p up to e: another change of one of them, or an insert under one of them?
  abbrev pub lost : (p e : ℕ) → Change A → Bool
  lost p e (insert p' q s) = leb p q && ltb q e
  lost p e (act p' x) = ltb p p' && ltb p' e

  -- the list behind the changes that are lost with the rows from b up to e
  unfoldable pub skip : (b e : ℕ) → List (Change A) → List (Change A)
  skip b e [] = []
  skip b e (c ∷ cs) = cond (lost b e c) (skip b e cs) (c ∷ cs)

  -- does the change c make the later change d vain?
  abbrev pub vain : Forest A → Change A → Change A → Bool
  vain t (insert p q s) d = false
  vain t (act p x) d = removes x && lost p (p + get_or (sizes t) p 0) d

  abbrev pub vain_by : Forest A → List (Change A) → Change A → Bool
  vain_by t [] d = false
  vain_by t (c ∷ cs) d = vain t c d || vain_by t cs d

  -- the kept changes of a list: those that none before them makes vain
  unfoldable pub kept : Forest A → (before : List (Change A)) → List (Change A) → List (Change A)
  kept t before [] = []
  kept t before (c ∷ cs) =
      let later = kept t (c ∷ before) cs in cond (vain_by t before c) later (c ∷ later)
