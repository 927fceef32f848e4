-- A test that tells whether something holds.
-- Assumes nothing.
use Rattle.std.proofs.Common.{◌≡◌, Bool, true, false, T, sym, subst}
use Rattle.plan.proofs.Kit.{true_of, false_of}
use Rattle.table.specs.Rows.{Says}

pub says_false : (t : Bool) (P : Type 0) → t ≡ false → Says t P → P → ⊥
says_false t P e h = subst (λ (b : Bool). Says b P) e h

pub says_true : (t : Bool) (P : Type 0) → t ≡ true → Says t P → P
says_true t P e h = subst (λ (b : Bool). Says b P) e h

-- a test of what another says too answers the same
pub says_same : (t u : Bool) (P : Type 0) → Says t P → (P → T u) → (T u → P) → t ≡ u
says_same true u P h f g = sym (true_of u (f h))
says_same false u P h f g = sym (false_of u (λ x. h (g x)))
