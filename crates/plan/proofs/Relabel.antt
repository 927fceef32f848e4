-- A list doesn't look at labels: labels changed before it or after it come to the same. So the paint of a new row tells
-- the truth, and so does whatever else the rows carry.
-- Assumes nothing.
use Prim.Native.Nat.{ℕ, zero, suc, ◌-◌}
use mathlib.Core.Path.{◌≡◌, refl, ap, ◌∙◌}
use mathlib.Core.Bool.{Bool, true, false, cond}
use mathlib.Core.List.{List, [], ◌∷◌}
use lib.Dec.{ltb}
use Rattle.plan.specs.Tree.{Forest, none, tree, count, at, relabel}
use Rattle.plan.specs.Change.{delete, rename, replace, Change, insert, act, put, acted, joined, single, meaning}
use Rattle.plan.proofs.Columns.{count-relabel, beside_relabel}

module _ {A B : Type 0} (φ : A → B) where
  -- the same change, on the other labels
  pub data Like : Change A → Change B → Type 0 where
    like_insert : (p q : ℕ) (s : Forest A) → Like (insert p q s) (insert p q (relabel φ s))
    like_delete : (p : ℕ) → Like (act p delete) (act p delete)
    like_rename : (p : ℕ) (g : A → A) (h : B → B) → ((a : A) → φ (g a) ≡ h (φ a))
        → Like (act p (rename g)) (act p (rename h))
    like_replace : (p : ℕ) (s : Forest A) → Like (act p (replace s)) (act p (replace (relabel φ s)))

  pub data LikeAll : List (Change A) → List (Change B) → Type 0 where
    nil : LikeAll [] []
    cons : {c : Change A} {d : Change B} {cs : List (Change A)} {ds : List (Change B)}
        → Like c d → LikeAll cs ds → LikeAll (c ∷ cs) (d ∷ ds)

  push : (m : Bool) (y z : Forest A) → relabel φ (cond m y z) ≡ cond m (relabel φ y) (relabel φ z)
  push true y z = refl
  push false y z = refl

  at-relabel : (f : Forest A → Forest A) (g : Forest B → Forest B)
      → ((t : Forest A) → relabel φ (f t) ≡ g (relabel φ t))
      → (t : Forest A) (p : ℕ) → relabel φ (at f t p) ≡ at g (relabel φ t) p
  unfolding at
  at-relabel f g e none p = refl
  at-relabel f g e (tree a k r) zero = e (tree a k r)
  at-relabel f g e (tree a k r) (suc p) =
      rw (count-relabel φ k, ← at-relabel f g e k p, ← at-relabel f g e r (p - count k)) (push (ltb p (count k)) _ _)

  put-relabel : (s t : Forest A) (x : ℕ) → relabel φ (put s t x) ≡ put (relabel φ s) (relabel φ t) x
  unfolding put
  put-relabel s none x = refl
  put-relabel s (tree a k r) zero = beside_relabel φ s (tree a k r)
  put-relabel s (tree a k r) (suc x) = rw (count-relabel φ k, put-relabel s r (x - count k))

  joined-relabel : (x : ℕ) (s t : Forest A) → relabel φ (joined x s t) ≡ joined x (relabel φ s) (relabel φ t)
  joined-relabel x s none = refl
  joined-relabel x s (tree a k r) = rw (put-relabel s k x)

  delete-relabel : (t : Forest A) → relabel φ (acted delete t) ≡ acted delete (relabel φ t)
  delete-relabel none = refl
  delete-relabel (tree a k r) = refl

  rename-relabel : (g : A → A) (h : B → B) → ((a : A) → φ (g a) ≡ h (φ a)) → (t : Forest A)
      → relabel φ (acted (rename g) t) ≡ acted (rename h) (relabel φ t)
  rename-relabel g h e none = refl
  rename-relabel g h e (tree a k r) = rw (e a)

  replace-relabel : (s t : Forest A) → relabel φ (acted (replace s) t) ≡ acted (replace (relabel φ s)) (relabel φ t)
  replace-relabel s none = refl
  replace-relabel s (tree a k r) = beside_relabel φ s r

  single-relabel : {c : Change A} {d : Change B} → Like c d → (t : Forest A)
      → relabel φ (single c t) ≡ single d (relabel φ t)
  single-relabel (like_insert p q s) t =
      at-relabel (joined (p - suc q) s) (joined (p - suc q) (relabel φ s)) (joined-relabel (p - suc q) s) t q
  single-relabel (like_delete p) t = at-relabel (acted delete) (acted delete) delete-relabel t p
  single-relabel (like_rename p g h e) t = at-relabel (acted (rename g)) (acted (rename h)) (rename-relabel g h e) t p
  single-relabel (like_replace p s) t =
      at-relabel (acted (replace s)) (acted (replace (relabel φ s))) (replace-relabel s) t p

  pub meaning-relabel : {cs : List (Change A)} {ds : List (Change B)} → LikeAll cs ds → (t : Forest A)
      → relabel φ (meaning cs t) ≡ meaning ds (relabel φ t)
  meaning-relabel nil t = refl
  meaning-relabel (cons {d = d} {cs = cs} l ls) t =
      single-relabel l (meaning cs t) ∙ ap (single d) (meaning-relabel ls t)
