-- Steps of the machine one after the other: they only go forward, and lead to one end.
-- Assumes nothing.
use Prim.Native.Nat.{ℕ, zero, suc, ◌+◌, ◌≤◌}
use native.Mathlib.Omega.{arith}
use mathlib.Core.Path.{◌≡◌, refl, sym, ap, ◌∙◌, subst}
use mathlib.Core.List.{List, [], ◌∷◌}
use lib.Dec.{eqb}
use Rattle.plan.specs.Tree.{Forest, none}
use Rattle.plan.specs.Table.{Table}
use Rattle.plan.specs.Change.{Act, delete, rename, replace, Change, insert, act}
use Rattle.plan.specs.Open.{size_at}
use Rattle.plan.proofs.Kit.{cond_elim}
use Rattle.plan.proofs.Standing.{mine}
use Rattle.pass_way.specs.Machine.{State, state, value_at, pasted, opened, closed, passed, changed, child, advanced, stepped, step, Reach, stop, more}

pub state_eq : {i i' o o' q q' j j' : ℕ} {u u' : Table} {cs : List (Change ℕ)}
    → i ≡ i' → o ≡ o' → q ≡ q' → j ≡ j' → u ≡ u' → state i o q j u cs ≡ state i' o' q' j' u' cs
state_eq {cs = cs} ei eo eq ej eu = λ w. state (ei w) (eo w) (eq w) (ej w) (eu w) cs

module _ (t : Table) where
  abbrev pub steps : ℕ → State → State
  steps zero s = s
  steps (suc n) s = steps n (step t s)

  -- ---- steps one after the other
  pub reach_trans : {r s v : State} → Reach t r s → Reach t s v → Reach t r v
  reach_trans stop q = q
  reach_trans (more p) q = more (reach_trans p q)

  pub step_to : {r s v : State} → step t r ≡ s → Reach t s v → Reach t r v
  step_to {v = v} e q = more (subst (λ (w : State). Reach t w v) (sym e) q)

  -- a state that a step leaves as it is leads nowhere else
  pub reach-fixed : {s v : State} → step t s ≡ s → Reach t s v → s ≡ v
  reach-fixed e stop = refl
  reach-fixed e (more q) = sym e ∙ reach-fixed (ap (step t) e) q

  -- two ways from one state, one of which ends
  pub join : {r s v : State} → Reach t r s → Reach t r v → step t v ≡ v → Reach t s v
  join stop q w = q
  join {s = s} (more p) stop w = subst (λ (x : State). Reach t s x) (sym (reach-fixed w (more p))) stop
  join (more p) (more q) w = join p q w

  pub reach-steps : {s v : State} → Reach t s v → (n : ℕ) × (steps n s ≡ v)
  reach-steps stop = (0, refl)
  reach-steps (more p) = let q = reach-steps p in (suc q.0, q.1)

  -- ---- whatever holds of all that a step can lead to holds of the step
  step_elim : (P : State → Type 0) (s : State)
      → ((f : Forest ℕ) (cs : List (Change ℕ)) → P (pasted s f s.row cs))
      → ((a : ℕ) (cs : List (Change ℕ)) → P (opened t s a cs))
      → ((f : Forest ℕ) (cs : List (Change ℕ)) → P (passed t s f cs))
      → P (closed t s) → P (step t s)
  unfolding step
  step_elim P s f g h l = on s.left
    where
      to_changed : (x : Act ℕ) (cs : List (Change ℕ)) → P (changed t s x cs)
      to_changed delete cs = h none cs
      to_changed (rename m) cs = g (m (value_at t s.row)) cs
      to_changed (replace k) cs = h k cs

      to_child : (cs : List (Change ℕ)) → P (child t s cs)
      to_child [] = g (value_at t s.row) []
      to_child (insert p q k ∷ cs) = g (value_at t s.row) (insert p q k ∷ cs)
      to_child (act p x ∷ cs) =
          cond_elim P (eqb p s.row) _ _ (λ w. to_changed x cs) (λ w. g (value_at t s.row) (act p x ∷ cs))

      to_advanced : P (advanced t s)
      to_advanced = cond_elim P (eqb s.row (s.parent + size_at t s.parent)) _ _ (λ w. l) (λ w. to_child s.left)

      on : (cs : List (Change ℕ)) → P (stepped t s cs)
      on [] = to_advanced
      on (act p x ∷ cs) = to_advanced
      on (insert p q k ∷ cs) =
          cond_elim P (mine s.row (suc s.parent) (insert p q k)) _ _ (λ w. f k cs) (λ w. to_advanced)

  -- the rows, old and new, only go forward
  abbrev pub Forward : State → State → Type 0
  Forward s v = (s.row ≤ v.row) × (s.out ≤ v.out)

  pub step_forward : (s : State) → Forward s (step t s)
  step_forward s =
      step_elim (Forward s) s (λ f cs. omega arith) (λ a cs. omega arith) (λ f cs. omega arith) (omega arith)

  pub reach_forward : {s v : State} → Reach t s v → Forward s v
  reach_forward stop = omega arith
  reach_forward (more {s = s} p) = let m = step_forward s in let n = reach_forward p in omega arith
