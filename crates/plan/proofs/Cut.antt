-- A list that fits a tree falls into parts: inserts in front of the tree, perhaps a change of the tree itself,
-- changes among its children, changes past it.
-- Assumes nothing.
use Prim.Native.Nat.{ℕ, suc, ◌+◌, ◌≤◌}
use native.Mathlib.Omega.{arith}
use mathlib.Core.Path.{◌≡◌, refl, ap}
use mathlib.Core.Bool.{true}
use mathlib.Core.List.{List, [], ◌∷◌, ◌++◌}
use lib.Dec.{T}
use Rattle.plan.specs.Tree.{Forest, tree, count}
use Rattle.plan.specs.Change.{Act, Change, insert, act, lost}
use Rattle.plan.proofs.Kit.{All, all_left, all_map, all_map₂}
use Rattle.plan.proofs.Standing.{Side, here, kids, past, by, sort_here, row, mine, side, valid, before, told, mine_told, In, inside, ord}

-- each change may stand before all later ones
abbrev pub Sorted : {A : Type 0} → List (Change A) → Type 0
Sorted [] = Unit {0}
Sorted (c ∷ cs) = All (λ d. T (before c d)) cs × Sorted cs

-- the list fits the forest: each change has its place, and they are in order
abbrev pub Fit : {A : Type 0} → (b u : ℕ) → Forest A → List (Change A) → Type 0
Fit b u f cs = All (λ c. T (valid b u f c)) cs × Sorted cs

module _ {A : Type 0} (b u : ℕ) (k r : Forest A) where
  -- the row behind the tree
  abbrev pub end : ℕ
  end = suc b + count k

  abbrev pub Kid : Change A → Type 0
  Kid c = (side b u end c ≡ kids) × T (valid (suc b) (suc b) k c)

  abbrev pub Past : Change A → Type 0
  Past c = (side b u end c ≡ past) × T (valid end u r c)

  pub data Rest (c : Change A) : Type 0 where
    kid : Kid c → Rest c
    later : Past c → Rest c

  pub data Class (c : Change A) : Type 0 where
    top : T (mine b u c) → Class c
    deep : Rest c → Class c

  class' : (c : Change A) (s : Side) → side b u end c ≡ s → T (by s true (valid (suc b) (suc b) k c) (valid end u r c))
      → Class c
  class' c here w v = top (sort_here (mine b u c) (lost b end c) w)
  class' c kids w v = deep (kid (w, v))
  class' c past w v = deep (later (w, v))

  pub class : (a : A) (c : Change A) → T (valid b u (tree a k r) c) → Class c
  unfolding valid
  class a c v = class' c (side b u end c) refl v

  module _ (h : u ≤ b) where
    pub in_kid : (c : Change A) → Kid c → In (suc b) end c
    in_kid c w = inside (suc b) (suc b) k c (omega arith) w.1

    pub in_past : (c : Change A) → Past c → In end (end + count r) c
    in_past c w = inside end u r c (omega arith) w.1

    -- behind a change past the tree there are only such
    pub past-past : (c d : Change A) → Past c → T (before c d) → Class d → Past d
    past-past c d w t (top v) =
        let i = in_past c w in
        let o = ord c d i.3 t in
        let m = mine_told b u end d h v in
        absurd (omega arith)
    past-past c d w t (deep (kid v)) =
        let i = in_past c w in
        let o = ord c d i.3 t in
        let j = in_kid d v in
        let m = told b u end d kids h v.0 in
        let n : ¬ (b ≤ row c) = λ l. omega (arith, told b u end c past h w.0 l) in
        absurd (omega (arith, o.2 (omega arith) (omega arith)))
    past-past c d w t (deep (later v)) = v

    -- behind a change in the tree there is none at its start
    pub kid_rest : (c d : Change A) → Kid c → T (before c d) → Class d → Rest d
    kid_rest c d w t (top v) =
        let i = in_kid c w in
        let o = ord c d i.3 t in
        let m = mine_told b u end d h v in
        absurd (omega arith)
    kid_rest c d w t (deep v) = v

    pub act-rest : (p : ℕ) (x : Act A) (d : Change A) → T (mine b u (act p x)) → T (before (act p x) d) → Class d
        → Rest d
    act-rest p x d w t (top v) =
        let o = ord (act p x) d tt t in
        let l = mine_told b u end (act p x) h w in
        let m = mine_told b u end d h v in
        absurd (omega arith)
    act-rest p x d w t (deep v) = v

    -- the changes among the children, and those past the tree
    pub record Cut (cs : List (Change A)) : Type 0 where
      pub K : List (Change A)
      pub R : List (Change A)
      pub whole : cs ≡ K ++ R
      pub kids_k : All Kid K
      pub sorted_k : Sorted K
      pub past_r : All Past R
      pub sorted_r : Sorted R

    cut_step : (c : Change A) (cs : List (Change A)) → Rest c → All Rest cs → Sorted (c ∷ cs) → Cut cs → Cut (c ∷ cs)
    cut_step c cs (later w) v o q =
        record {
          K = [];
          R = c ∷ cs;
          whole = refl;
          kids_k = tt;
          sorted_k = tt;
          past_r = (w, all_map₂ (λ d. T (before c d)) Rest Past (λ d t x. past-past c d w t (deep x)) cs o.0 v);
          sorted_r = o;
        }
    cut_step c cs (kid w) v o q =
        record {
          K = c ∷ q.K;
          R = q.R;
          whole = ap (λ (l : List (Change A)). c ∷ l) q.whole;
          kids_k = (w, q.kids_k);
          sorted_k = (all_left (λ d. T (before c d)) q.K q.R (rw q.whole at o.0), q.sorted_k);
          past_r = q.past_r;
          sorted_r = q.sorted_r;
        }

    pub cut : (cs : List (Change A)) → All Rest cs → Sorted cs → Cut cs
    cut [] v o = record { K = []; R = []; whole = refl; kids_k = tt; sorted_k = tt; past_r = tt; sorted_r = tt }
    cut (c ∷ cs) v o = cut_step c cs v.0 v.1 o (cut cs v.1 o.1)

    -- the changes at the tree's start, and then the others
    pub data Shape : List (Change A) → Type 0 where
      plain : (cs : List (Change A)) → All Rest cs → Sorted cs → Shape cs
      acts : (p : ℕ) (x : Act A) (cs : List (Change A)) → T (mine b u (act p x)) → All Rest cs → Sorted cs
          → Shape (act p x ∷ cs)
      inserts : (p q : ℕ) (s : Forest A) (cs : List (Change A)) → T (mine b u (insert p q s)) → Shape cs
          → Shape (insert p q s ∷ cs)

    shape_step : (c : Change A) (cs : List (Change A)) → Class c → All Class cs → Sorted (c ∷ cs) → Shape cs
        → Shape (c ∷ cs)
    shape_step (insert p q s) cs (top w) v o y = inserts p q s cs w y
    shape_step (act p x) cs (top w) v o y =
        acts p x cs w (all_map₂ (λ d. T (before (act p x) d)) Class Rest (λ d t z. act-rest p x d w t z) cs o.0 v)
        o.1
    shape_step c cs (deep (kid w)) v o y =
        plain (c ∷ cs) (kid w, all_map₂ (λ d. T (before c d)) Class Rest (λ d t z. kid_rest c d w t z) cs o.0 v) o
    shape_step c cs (deep (later w)) v o y =
        plain (c ∷ cs)
        (later w, all_map₂ (λ d. T (before c d)) Class Rest (λ d t z. later (past-past c d w t z)) cs o.0 v) o

    shape : (cs : List (Change A)) → All Class cs → Sorted cs → Shape cs
    shape [] v o = plain [] tt tt
    shape (c ∷ cs) v o = shape_step c cs v.0 v.1 o (shape cs v.1 o.1)

    pub shape_of : (a : A) (cs : List (Change A)) → Fit b u (tree a k r) cs → Shape cs
    shape_of a cs v = shape cs (all_map (λ c. T (valid b u (tree a k r) c)) Class (class a) cs v.0) v.1
