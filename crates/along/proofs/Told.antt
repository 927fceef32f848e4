-- What the tests of a mapping say, read back: those of the list, and then one more.
-- Assumes nothing.
use Prim.Native.Nat.{ℕ}
use mathlib.Core.Path.{◌≡◌, sym}
use mathlib.Core.Bool.{Bool}
use Rattle.std.specs.Prelude.{Ok, Err}
use Rattle.plan.specs.Verdict.{Verdict}
use Rattle.plan.specs.Verdict.{Passed}
use Rattle.plan.specs.declared.refusal.Refusal.{Refusal}
use Rattle.plan.specs.Call.{then, test, judgement}
use Rattle.plan.specs.Told.{failed, judgement_told, verdict_told}
use Rattle.judge.proofs.Told.{needs_told, failed-then, failed-judged}

-- the judgement v of the list, with n rows needed, and the test b
module _ (v : Verdict) (n : ℕ) (b : Bool) (number place count : ℕ) where
  abbrev both : Verdict
  both = then v (test b number place count)

  pub list-refused : (e : Refusal) → judgement_told (Err e) ≡ judgement v n → both ≡ failed e
  list-refused e h = rw (failed-judged e v n h) (failed-then e (test b number place count))

  pub judged_told : (m : ℕ) → judgement_told (Ok m) ≡ judgement v n → (v ≡ Passed) × (m ≡ n)
  judged_told m h = (needs_told v n m).0 (sym h)

  pub test_refused : (m : ℕ) (e : Refusal) → judgement_told (Ok m) ≡ judgement v n
      → verdict_told (Err e) ≡ test b number place count → both ≡ failed e
  test_refused m e h f = rw ((judged_told m h).0) (sym f)
