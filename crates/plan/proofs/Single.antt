-- What a change that is made leaves as it was: the rows before its location, and what lies beside its place.
-- Assumes nothing.
use Prim.Native.Nat.{ℕ, suc, ◌+◌, ◌≤◌}
use native.Mathlib.Omega.{arith}
use mathlib.Core.Path.{◌≡◌, refl}
use mathlib.Core.Bool.{true}
use mathlib.Core.List.{List, [], ◌∷◌, ◌++◌}
use Rattle.plan.specs.Tree.{Forest, none, tree, count, ◌⊕◌}
use Rattle.plan.specs.Change.{Act, Change, insert, act, instead}
use Rattle.plan.proofs.Kit.{All}
use Rattle.plan.proofs.Columns.{count_beside}
use Rattle.plan.proofs.Standing.{here, kids, past, by_elim, location, mine, side, made, all_made, told}

module _ {A : Type 0} where
  -- an insert takes no row away
  grow : (b u p q : ℕ) (s f : Forest A) → count f ≤ count (made b u (insert p q s) f)
  unfolding made
  grow b u p q s none = omega arith
  grow b u p q s (tree a k r) =
      by_elim (λ (g : Forest A). suc (count k + count r) ≤ count g) (side b u (suc b + count k) (insert p q s)) _ _ _
      (λ w. omega (arith, count_beside s (tree a k r)))
      (λ w. omega (arith, grow (suc b) (suc b) p q s k))
      (λ w. omega (arith, grow (suc b + count k) u p q s r))

  -- any other change leaves the rows before its location
  keep_act : (m b u p : ℕ) (x : Act A) (f : Forest A) → u ≤ b → m ≤ p → m ≤ b + count f
      → m ≤ b + count (made b u (act p x) f)
  unfolding made
  keep_act m b u p x none h l n = omega arith
  keep_act m b u p x (tree a k r) h l n =
      let e : ℕ = suc b + count k in
      by_elim (λ (g : Forest A). m ≤ b + count g) (side b u e (act p x)) _ _ _
      (λ w. let t = told b u e (act p x) here h w in omega arith)
      (λ w. let t = told b u e (act p x) kids h w in
      omega (arith, keep_act m (suc b) (suc b) p x k (omega arith) l (omega arith)))
      (λ w. omega (arith, keep_act m e u p x r (omega arith) l (omega arith)))

  pub keep : (m b u : ℕ) (c : Change A) (f : Forest A) → u ≤ b → m ≤ location c → m ≤ b + count f
      → m ≤ b + count (made b u c f)
  keep m b u (insert p q s) f h l n = omega (arith, grow b u p q s f)
  keep m b u (act p x) f h l n = keep_act m b u p x f h l n

  pub keep_all : (m b u : ℕ) (cs : List (Change A)) (f : Forest A) → u ≤ b → All (λ (c : Change A). m ≤ location c) cs
      → m ≤ b + count f → m ≤ b + count (all_made b u cs f)
  keep_all m b u [] f h l n = n
  keep_all m b u (c ∷ cs) f h l n = keep m b u c (all_made b u cs f) h l.0 (keep_all m b u cs f h l.1 n)

  -- a change where it belongs
  pub made_insert : (b u p q : ℕ) (s f : Forest A) → mine b u (insert p q s) ≡ true → made b u (insert p q s) f ≡ s ⊕ f
  unfolding made
  made_insert b u p q s none w = rw w
  made_insert b u p q s (tree a k r) w = rw w

  pub made_act : (b u p : ℕ) (x : Act A) (a : A) (k r : Forest A) → mine b u (act p x) ≡ true
      → made b u (act p x) (tree a k r) ≡ instead x a k ⊕ r
  unfolding made
  made_act b u p x a k r w = rw w

  pub made_kids : (b u : ℕ) (c : Change A) (a : A) (k r : Forest A) → side b u (suc b + count k) c ≡ kids
      → made b u c (tree a k r) ≡ tree a (made (suc b) (suc b) c k) r
  unfolding made
  made_kids b u c a k r w = rw w

  pub made_past : (b u : ℕ) (c : Change A) (a : A) (k r : Forest A) → side b u (suc b + count k) c ≡ past
      → made b u c (tree a k r) ≡ tree a k (made (suc b + count k) u c r)
  unfolding made
  made_past b u c a k r w = rw w

  pub made_append : (b u : ℕ) (cs ds : List (Change A)) (f : Forest A)
      → all_made b u (cs ++ ds) f ≡ all_made b u cs (all_made b u ds f)
  made_append b u [] ds f = refl
  made_append b u (c ∷ cs) ds f = rw (made_append b u cs ds f)
