-- Tests one after another: all have passed exactly where each has.
-- Assumes nothing.
use Prim.Native.Nat.{ℕ}
use native.Mathlib.Omega.{arith}
use mathlib.Core.Path.{◌≡◌, refl, sym, ◌∙◌}
use mathlib.Core.Bool.{Bool, true, false}
use Rattle.plan.specs.Verdict.{Verdict}
use Rattle.plan.specs.Verdict.{Passed, Failed}
use Rattle.plan.specs.Call.{then, test}

pub test_true : (b : Bool) (number place count : ℕ) → test b number place count ≡ Passed → b ≡ true
test_true true number place count h = refl
test_true false number place count h = let z : ◌≡◌ {A = ℕ} 0 1 = cc in absurd (omega arith)

pub test_false : (b : Bool) (number place count n p c : ℕ) → test b number place count ≡ Failed n p c → b ≡ false
test_false true number place count n p c h = let z : ◌≡◌ {A = ℕ} 0 1 = cc in absurd (omega arith)
test_false false number place count n p c h = refl

-- the answer of a test that passes or fails, and what it tells where it is taken apart
module _ (b : Bool) (number place count : ℕ) where
  pub passing : b ≡ true → Passed ≡ test b number place count
  passing e = rw e

  pub failing : b ≡ false → Failed number place count ≡ test b number place count
  failing e = rw e

  pub passed-told : {v : Verdict} → v ≡ test b number place count → v ≡ Passed → b ≡ true
  passed-told h e = test_true b number place count (sym h ∙ e)

  pub failed_told : {v : Verdict} {n p c : ℕ} → v ≡ test b number place count → v ≡ Failed n p c → b ≡ false
  failed_told {n = n} {p = p} {c = c} h e = test_false b number place count n p c (sym h ∙ e)

pub then-passed : (v w : Verdict) → then v w ≡ Passed → (v ≡ Passed) × (w ≡ Passed)
then-passed Passed w h = (refl, h)
then-passed (Failed number place count) w h = let z : ◌≡◌ {A = ℕ} 0 1 = cc in absurd (omega arith)
