-- Where a change stands to a list of siblings: at the start of the first tree, inside that tree, or past it.
-- The siblings are looked at from row b on; the first of all their siblings stands at row u, just behind their parent.
-- Assumes nothing.
use Prim.Native.Nat.{ℕ, suc, ◌+◌, ◌≤◌, ◌<◌}
use native.Mathlib.Omega.{arith}
use mathlib.Core.Path.{◌≡◌, refl, subst}
use mathlib.Core.Bool.{Bool, true, false, not, ◌&&◌, ◌||◌}
use mathlib.Core.List.{List, [], ◌∷◌}
use lib.Dec.{T, leb, ltb, eqb, leb→le, ltb→lt, lt→ltb, le→leb, nltb→le, eqb→eq, T_not}
use Rattle.plan.specs.Tree.{Forest, none, tree, count, ◌⊕◌}
pub use Rattle.plan.specs.Change.{location}
use Rattle.plan.specs.Change.{Change, insert, act, instead, lost}
use Rattle.plan.proofs.Kit.{T_and, T-or, not-and, eq→eqb, by_place}

pub data Side : Type 0 where
  here kids past : Side

abbrev pub sort : Bool → Bool → Side
sort true y = here
sort false true = kids
sort false false = past

abbrev pub by {ℓ} : {X : Type ℓ} → Side → X → X → X → X
by here x y z = x
by kids x y z = y
by past x y z = z

pub sort_here : (x y : Bool) → sort x y ≡ here → T x
sort_here true y w = tt
sort_here false true w = let z : ◌≡◌ {A = ℕ} 0 1 = cc in omega arith
sort_here false false w = let z : ◌≡◌ {A = ℕ} 0 1 = cc in omega arith

pub sort_kids : (x y : Bool) → sort x y ≡ kids → (x ≡ false) × (y ≡ true)
sort_kids true y w = let z : ◌≡◌ {A = ℕ} 0 1 = cc in absurd (omega arith)
sort_kids false true w = (refl, refl)
sort_kids false false w = let z : ◌≡◌ {A = ℕ} 0 1 = cc in absurd (omega arith)

pub sort_past : (x y : Bool) → sort x y ≡ past → (x ≡ false) × (y ≡ false)
sort_past true y w = let z : ◌≡◌ {A = ℕ} 0 1 = cc in absurd (omega arith)
sort_past false true w = let z : ◌≡◌ {A = ℕ} 0 1 = cc in absurd (omega arith)
sort_past false false w = (refl, refl)

pub only_kids : (s : Side) → (s ≡ here → ⊥) → (s ≡ past → ⊥) → s ≡ kids
only_kids here f g = absurd (f refl)
only_kids kids f g = refl
only_kids past f g = absurd (g refl)

pub only_past : (s : Side) → (s ≡ here → ⊥) → (s ≡ kids → ⊥) → s ≡ past
only_past here f g = absurd (f refl)
only_past kids f g = absurd (g refl)
only_past past f g = refl

pub by_elim : {X : Type 0} (P : X → Type 0) (s : Side) (x y z : X)
    → (s ≡ here → P x) → (s ≡ kids → P y) → (s ≡ past → P z) → P (by s x y z)
by_elim P here x y z f g h = f refl
by_elim P kids x y z f g h = g refl
by_elim P past x y z f g h = h refl

sort_elim : (P : Side → Type 0) (x y : Bool)
    → (T x → P here) → (T y → P kids) → (T (not x) → T (not y) → P past) → P (sort x y)
sort_elim P true y f g h = f tt
sort_elim P false true f g h = g tt
sort_elim P false false f g h = h tt tt

module _ {A : Type 0} where
  -- the row that a change names: an insert's parent, any other's own
  abbrev pub row : Change A → ℕ
  row (insert p q s) = q
  row (act p x) = p

  -- is it for just this place: an insert under their parent at row b, or of the tree there?
  abbrev pub mine : (b u : ℕ) → Change A → Bool
  mine b u (insert p q s) = eqb p b && eqb (suc q) u
  mine b u (act p x) = eqb p b

  -- the first tree takes the rows from b up to e
  abbrev pub side : (b u e : ℕ) → Change A → Side
  side b u e c = sort (mine b u c) (lost b e c)

  -- the change made at the start of a forest
  abbrev pub front : Change A → Forest A → Forest A
  front (insert p q s) f = s ⊕ f
  front (act p x) none = none
  front (act p x) (tree a k r) = instead x a k ⊕ r

  -- the change made wherever it belongs
  unfoldable pub made : (b u : ℕ) → Change A → Forest A → Forest A
  made b u c none = by (side b u b c) (front c none) none none
  made b u c (tree a k r) =
      by (side b u (suc b + count k) c) (front c (tree a k r))
      (tree a (made (suc b) (suc b) c k) r)
      (tree a k (made (suc b + count k) u c r))

  -- a list of changes made, the last one first
  abbrev pub all_made : (b u : ℕ) → List (Change A) → Forest A → Forest A
  all_made b u [] f = f
  all_made b u (c ∷ cs) f = made b u c (all_made b u cs f)

  -- the change has a place in the forest
  unfoldable pub valid : (b u : ℕ) → Forest A → Change A → Bool
  valid b u none (insert p q s) = mine b u (insert p q s)
  valid b u none (act p x) = false
  valid b u (tree a k r) c =
      by (side b u (suc b + count k) c) true (valid (suc b) (suc b) k c) (valid (suc b + count k) u r c)

  -- c may stand before d in a list
  abbrev pub before : Change A → Change A → Bool
  before (insert p q s) (insert p' q' s') = ltb p p' || (eqb p p' && leb q' q)
  before (insert p q s) (act p' x) = leb p p'
  before (act p x) d = ltb p (location d)

  -- ---- what these tests tell
  -- an insert's parent stands before its location
  abbrev pub Strict : Change A → Type 0
  Strict (insert p q s) = q < p
  Strict (act p x) = Unit {0}

  abbrev pub Told : (b u e : ℕ) → Change A → Side → Type 0
  Told b u e c here = (location c ≡ b) × (u ≤ suc (row c)) × (row c ≤ b) × Strict c
  Told b u e c kids = (b ≤ row c) × (row c < e)
  Told b u e c past = b ≤ row c → e ≤ row c

  pub mine_told : (b u e : ℕ) (c : Change A) → u ≤ b → T (mine b u c) → Told b u e c here
  mine_told b u e (insert p q s) h t =
      let w = T_and (eqb p b) (eqb (suc q) u) t in
      let l : p ≡ b = eqb→eq p b w.0 in
      let m : suc q ≡ u = eqb→eq (suc q) u w.1 in
      omega arith
  mine_told b u e (act p x) h t = let l : p ≡ b = eqb→eq p b t in (l, omega arith, omega arith, tt)

  pub lost-told : (b e : ℕ) (c : Change A) → T (lost b e c) → (b ≤ row c) × (row c < e)
  lost-told b e (insert p q s) t =
      let w = T_and (leb b q) (ltb q e) t in (leb→le b q w.0, ltb→lt q e w.1)
  lost-told b e (act p x) t =
      let w = T_and (ltb b p) (ltb p e) t in
      let l = ltb→lt b p w.0 in
      (omega arith, ltb→lt p e w.1)

  past-told : (b u e : ℕ) (c : Change A) → u ≤ b → T (not (mine b u c)) → T (not (lost b e c)) → Told b u e c past
  past-told b u e (insert p q s) h m t l = nltb→le q e (not-and (leb b q) (ltb q e) t (le→leb b q l))
  past-told b u e (act p x) h m t l =
      let d : (p ≡ b → ⊥) = λ w. T_not (eqb p b) m (eq→eqb p b w) in
      let m : b < p = by_place p b (λ z. absurd (omega arith)) (λ z. absurd (d z)) (λ z. z) in
      nltb→le p e (not-and (ltb b p) (ltb p e) t (lt→ltb b p m))

  told' : (b u e : ℕ) (c : Change A) → u ≤ b → Told b u e c (side b u e c)
  told' b u e c h =
      sort_elim (Told b u e c) (mine b u c) (lost b e c) (mine_told b u e c h) (lost-told b e c) (past-told b u e c h)

  pub told : (b u e : ℕ) (c : Change A) (s : Side) → u ≤ b → side b u e c ≡ s → Told b u e c s
  told b u e c s h q = subst (Told b u e c) q (told' b u e c h)

  -- a change with a place in the rows from b up to n
  abbrev pub In : (b n : ℕ) → Change A → Type 0
  In b n c = (b ≤ location c) × (location c ≤ n) × (row c < n) × Strict c

  in_tree : (b u e n : ℕ) (c : Change A) (x y : Bool) (s : Side) → b < e → e ≤ n → Told b u e c s
      → (T x → In (suc b) e c) → (T y → In e n c) → T (by s true x y) → In b n c
  in_tree b u e n c x y here h l t f g v = (omega arith, omega arith, omega arith, t.3)
  in_tree b u e n c x y kids h l t f g v = let i = f v in (omega arith, omega arith, omega arith, i.3)
  in_tree b u e n c x y past h l t f g v = let i = g v in (omega arith, omega arith, omega arith, i.3)

  pub inside : (b u : ℕ) (f : Forest A) (c : Change A) → u ≤ b → T (valid b u f c) → In b (b + count f) c
  unfolding valid
  inside b u none (insert p q s) h v = let t = mine_told b u b (insert p q s) h v in omega arith
  inside b u none (act p x) h v = absurd v
  inside b u (tree a k r) c h v =
      let e : ℕ = suc b + count k in
      let i =
      in_tree b u e (e + count r) c (valid (suc b) (suc b) k c) (valid e u r c) (side b u e c) (omega arith)
      (omega arith)
      (told' b u e c h) (inside (suc b) (suc b) k c (omega arith)) (inside e u r c (omega arith)) v in
      (omega arith, omega arith, omega arith, i.3)

  -- what the order tells
  abbrev pub Ord : Change A → Change A → Type 0
  Ord c d = (location c ≤ location d) × (row c < location d)
      × (location d ≤ location c → row c < row d → row d ≡ location d)

  pub ord : (c d : Change A) → Strict c → T (before c d) → Ord c d
  ord (insert p q s) (insert p' q' s') h t =
      T-or (ltb p p') (eqb p p' && leb q' q) (λ l. let m = ltb→lt p p' l in omega arith)
      (λ l.
      let v = T_and (eqb p p') (leb q' q) l in
      let m = eqb→eq p p' v.0 in
      let w = leb→le q' q v.1 in
      omega arith) t
  ord (insert p q s) (act p' x) h t = let m = leb→le p p' t in omega arith
  ord (act p x) d h t = let m = ltb→lt p (location d) t in omega arith
