-- General lemmas: what tests tell, a number's place among others, facts on all elements of a list.
-- Assumes nothing.
use Prim.Native.Nat.{ℕ, ◌≤◌, ◌<◌}
use native.Mathlib.Omega.{arith}
use native.Mathlib.Decide.{dec_lt}
use mathlib.Core.Path.{◌≡◌, refl, sym, subst}
use mathlib.Core.Bool.{Bool, true, false, not, cond, ◌&&◌, ◌||◌}
use mathlib.Core.List.{List, [], ◌∷◌, ◌++◌}
use lib.Dec.{T, eqb, eqb_refl}
pub use Rattle.plan.specs.Records.{All}

-- ---- tests
pub true_of : (x : Bool) → T x → x ≡ true
true_of true t = refl
true_of false t = absurd t

pub false_of : (x : Bool) → (T x → ⊥) → x ≡ false
false_of true t = absurd (t tt)
false_of false t = refl

pub T_of : (x : Bool) → x ≡ true → T x
T_of x e = subst T (sym e) tt

pub T_and : (x y : Bool) → T (x && y) → T x × T y
T_and true y t = (tt, t)
T_and false y t = absurd t

pub and_T : (x y : Bool) → T x → T y → T (x && y)
and_T true y h l = l
and_T false y h l = h

pub not-and : (x y : Bool) → T (not (x && y)) → T x → T (not y)
not-and true y t h = t
not-and false y t h = absurd h

pub T-or : {P : Type 0} (x y : Bool) → (T x → P) → (T y → P) → T (x || y) → P
T-or true y f g t = f tt
T-or false y f g t = g t

pub or_left : (x y : Bool) → T x → T (x || y)
or_left true y h = tt
or_left false y h = absurd h

pub or_right : (x y : Bool) → T y → T (x || y)
or_right true y h = tt
or_right false y h = h

pub and_false : (x : Bool) {y : Bool} → y ≡ false → (x && y) ≡ false
and_false true e = e
and_false false e = refl

pub or_true : (x y : Bool) → y ≡ true → (x || y) ≡ true
or_true true y e = refl
or_true false y e = e

pub eq→eqb : (m n : ℕ) → m ≡ n → T (eqb m n)
eq→eqb m n h = rw h (eqb_refl n)

-- what holds of both outcomes of a test
pub cond_elim : {X : Type 0} (P : X → Type 0) (m : Bool) (x y : X)
    → (m ≡ true → P x) → (m ≡ false → P y) → P (cond m x y)
cond_elim P true x y f g = f refl
cond_elim P false x y f g = g refl

-- ---- numbers
-- z is before b, at b or after it
pub by_place {ℓ} : {P : Type ℓ} (z b : ℕ) → (z < b → P) → (z ≡ b → P) → (b < z → P) → P
by_place z b f g h =
    elim (dec_lt z b) [
      | yes l ↦ f l
      | no k ↦ elim (dec_lt b z) [
        | yes l ↦ h l
        | no m ↦ g (omega arith)
      ]
    ]

-- z is before b, or not
pub by_side {ℓ} : {P : Type ℓ} (z b : ℕ) → (z < b → P) → (b ≤ z → P) → P
by_side z b f g = by_place z b f (λ e. g (omega arith)) (λ l. g (omega arith))

-- ---- lists
module _ {C : Type 0} (P : C → Type 0) where
  pub all_append : (xs ys : List C) → All P xs → All P ys → All P (xs ++ ys)
  all_append [] ys h l = l
  all_append (x ∷ xs) ys h l = (h.0, all_append xs ys h.1 l)

  pub all_left : (xs ys : List C) → All P (xs ++ ys) → All P xs
  all_left [] ys h = tt
  all_left (x ∷ xs) ys h = (h.0, all_left xs ys h.1)

  pub all_right : (xs ys : List C) → All P (xs ++ ys) → All P ys
  all_right [] ys h = h
  all_right (x ∷ xs) ys h = all_right xs ys h.1

  pub all_map : (Q : C → Type 0) → ((c : C) → P c → Q c) → (xs : List C) → All P xs → All Q xs
  all_map Q f [] h = tt
  all_map Q f (x ∷ xs) h = (f x h.0, all_map Q f xs h.1)

  pub all_map₂ : (Q R : C → Type 0) → ((c : C) → P c → Q c → R c) → (xs : List C) → All P xs → All Q xs → All R xs
  all_map₂ Q R f [] h l = tt
  all_map₂ Q R f (x ∷ xs) h l = (f x h.0 l.0, all_map₂ Q R f xs h.1 l.1)
