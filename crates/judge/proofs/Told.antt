-- A verdict as a judgement, read back.
-- Assumes nothing.
use Prim.Native.Nat.{ℕ}
use native.Mathlib.Omega.{arith}
use mathlib.Core.Path.{◌≡◌, refl, sym, ◌∙◌}
use mathlib.Core.Logic.{◌↔◌}
use Rattle.std.specs.Prelude.{Err}
use Rattle.plan.specs.Verdict.{Verdict}
use Rattle.plan.specs.Verdict.{Passed, Failed}
use Rattle.plan.specs.Verdict.{Needs, Refused}
use Rattle.plan.specs.declared.refusal.Refusal.{Refusal}
use Rattle.plan.specs.declared.refusal.Refusal.TheVariants.{Uneven as UnevenList, Unsound, TooManyRecords, BadRecord, TooManyRows, NoRoom, NoSuchRow}
use Rattle.plan.specs.Call.{then, judgement}
use Rattle.plan.specs.Told.{fault, failed, judgement_told}

pub needs_told : (v : Verdict) (r n : ℕ) → (judgement v r ≡ Needs n) ↔ ((v ≡ Passed) × (n ≡ r))
needs_told Passed r n = ((λ e. (refl, cc)), (λ h. cc))
needs_told (Failed a p c) r n = (
  (λ e. let z : ◌≡◌ {A = ℕ} 0 1 = cc in absurd (omega arith)),
  (λ h. let z : ◌≡◌ {A = ℕ} 0 1 = cc in absurd (omega arith)),
)

pub refused-told : (v : Verdict) (r a p c : ℕ) → (judgement v r ≡ Refused a p c) ↔ (v ≡ Failed a p c)
refused-told Passed r a p c = (
  (λ e. let z : ◌≡◌ {A = ℕ} 0 1 = cc in absurd (omega arith)),
  (λ h. let z : ◌≡◌ {A = ℕ} 0 1 = cc in absurd (omega arith)),
)
refused-told (Failed b q d) r a p c = ((λ e. cc), (λ h. cc))

-- ---- what a refusal says
-- it is a test that failed
pub record Fails (v : Verdict) : Type 0 where
  pub number : ℕ
  pub place : ℕ
  pub count : ℕ
  pub is : v ≡ Failed number place count

pub failed-fails : (e : Refusal) → Fails (failed e)
failed-fails UnevenList = record { number = 1; place = 0; count = 0; is = refl }
failed-fails Unsound = record { number = 2; place = 0; count = 0; is = refl }
failed-fails TooManyRecords = record { number = 3; place = 0; count = 0; is = refl }
failed-fails (BadRecord f k) = record { number = fault f; place = k; count = 0; is = refl }
failed-fails (TooManyRows n) = record { number = 9; place = 0; count = n; is = refl }
failed-fails (NoRoom n) = record { number = 10; place = 0; count = n; is = refl }
failed-fails (NoSuchRow r) = record { number = 11; place = r; count = 0; is = refl }

-- no later test counts
pub failed-then : (e : Refusal) (w : Verdict) → then (failed e) w ≡ failed e
failed-then e w = let h = (failed-fails e).is in rw h

-- and it is the judgement just where that test failed
pub judged-failed : (e : Refusal) (v : Verdict) (rows : ℕ) → v ≡ failed e → judgement_told (Err e) ≡ judgement v rows
judged-failed e v rows w = let h = (failed-fails e).is in rw (w, h)

pub failed-judged : (e : Refusal) (v : Verdict) (rows : ℕ) → judgement_told (Err e) ≡ judgement v rows → v ≡ failed e
failed-judged e v rows w =
    let f = failed-fails e in
    (refused-told v rows f.number f.place f.count).0 (sym (rw f.is at w)) ∙ sym f.is
