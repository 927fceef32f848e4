-- Each answer of the code is told by its reading alone: what a contract says of the reading determines the answer. Shown
-- by reading back: from the number, the place and the count the refusal is found again.
-- Assumes nothing.
use Rattle.std.proofs.Common.{◌≡◌, ℕ, Option, Some, None, Result, Ok, Err, cond, eqb, refl, sym, ap, ◌∙◌}
use Rattle.std.specs.Prelude.{⊤}
use Rattle.plan.specs.declared.NewPre.{NewPre}
use Rattle.plan.specs.declared.Answer.{Answer}
use Rattle.plan.specs.declared.Source.{Source}
use Rattle.plan.specs.declared.Source.TheVariants.{Old, Run}
use Rattle.plan.specs.declared.refusal.Uneven.{Uneven}
use Rattle.plan.specs.declared.refusal.Fault.TheVariants.{Kind, Location, Run as BadRun, Order, Alone}
use Rattle.plan.specs.declared.refusal.Refusal.{Refusal}
use Rattle.plan.specs.declared.refusal.Refusal.TheVariants.{Uneven as UnevenList, Unsound, TooManyRecords, BadRecord, TooManyRows, NoRoom, NoSuchRow}
use Rattle.plan.specs.Verdict.{Verdict, Judgement}
use Rattle.plan.specs.Verdict.{Passed, Failed}
use Rattle.plan.specs.Verdict.{Needs, Refused}
use Rattle.plan.specs.Paint.{old}
use Rattle.plan.specs.Call.{answer, judgement}
use Rattle.plan.specs.Mapping.{Became, Was, gone, became, was}
use Rattle.plan.specs.Mapping.{Row, Gone, NotBecame}
use Rattle.plan.specs.Mapping.{Old as WasOld, Run as WasRun, NotWas}
use Rattle.plan.specs.Told.{failed, verdict_told, even_told, judgement_told, answer_told, became_told, was_told}

-- a reading that can be read back leaves one answer to each of its values
module _ {A B : Type 0} (read : A → B) (unread : B → A) (back : (a : A) → unread (read a) ≡ a) where
  read_once : (x : B) (a b : A) → read a ≡ x → read b ≡ x → a ≡ b
  read_once x a b p q = sym (back a) ∙ (ap unread (p ∙ sym q) ∙ back b)

-- ---- the refusals of a call on a list
abbrev by_number : (number place count : ℕ) → Refusal
by_number number place count =
    cond (eqb number 1) UnevenList
    (cond (eqb number 2) Unsound
    (cond (eqb number 3) TooManyRecords
    (cond (eqb number 4) (BadRecord Kind place)
    (cond (eqb number 5) (BadRecord Location place)
    (cond (eqb number 6) (BadRecord BadRun place)
    (cond (eqb number 7) (BadRecord Order place)
    (cond (eqb number 8) (BadRecord Alone place)
    (cond (eqb number 9) (TooManyRows count)
    (cond (eqb number 10) (NoRoom count) (NoSuchRow place))))))))))

-- passed with this answer, or refused
abbrev handed_back : {A : Type 0} → A → Verdict → Result A Refusal
handed_back a Passed = Ok a
handed_back a (Failed number place count) = Err (by_number number place count)

refused_back : {A : Type 0} (a : A) (e : Refusal) → handed_back a (failed e) ≡ Err e
refused_back a UnevenList = refl
refused_back a Unsound = refl
refused_back a TooManyRecords = refl
refused_back a (BadRecord Kind k) = refl
refused_back a (BadRecord Location k) = refl
refused_back a (BadRecord BadRun k) = refl
refused_back a (BadRecord Order k) = refl
refused_back a (BadRecord Alone k) = refl
refused_back a (TooManyRows n) = refl
refused_back a (NoRoom n) = refl
refused_back a (NoSuchRow r) = refl

-- ---- some tests; test 1 alone
verdict_back : (a : Result ⊤ Refusal) → handed_back tt (verdict_told a) ≡ a
verdict_back (Ok x) = refl
verdict_back (Err e) = refused_back tt e

pub verdict_once : (x : Verdict) (a b : Result ⊤ Refusal) → verdict_told a ≡ x → verdict_told b ≡ x → a ≡ b
verdict_once = read_once verdict_told (handed_back tt) verdict_back

abbrev unread_even : Verdict → Result ⊤ Uneven
unread_even Passed = Ok tt
unread_even (Failed number place count) = Err (record {})

even_back : (a : Result ⊤ Uneven) → unread_even (even_told a) ≡ a
even_back (Ok x) = refl
even_back (Err e) = refl

pub even_once : (x : Verdict) (a b : Result ⊤ Uneven) → even_told a ≡ x → even_told b ≡ x → a ≡ b
even_once = read_once even_told unread_even even_back

-- ---- the judgement of a list
abbrev needed : Judgement → ℕ
needed (Needs rows) = rows
needed (Refused number place count) = 0

abbrev judged_by : Judgement → Verdict
judged_by (Needs rows) = Passed
judged_by (Refused number place count) = Failed number place count

judged_back : (v : Verdict) → judged_by (judgement v 0) ≡ v
judged_back Passed = refl
judged_back (Failed number place count) = refl

abbrev unread_judgement : Judgement → Result ℕ Refusal
unread_judgement j = handed_back (needed j) (judged_by j)

judgement_back : (a : Result ℕ Refusal) → unread_judgement (judgement_told a) ≡ a
judgement_back (Ok rows) = refl
judgement_back (Err e) =
    let j = judgement (failed e) 0 in
    ap (handed_back (needed j)) (judged_back (failed e)) ∙ refused_back (needed j) e

pub judgement_once : (x : Judgement) (a b : Result ℕ Refusal) → judgement_told a ≡ x → judgement_told b ≡ x → a ≡ b
judgement_once = read_once judgement_told unread_judgement judgement_back

-- ---- a whole call: accepted it has number 0, and no refusal has
abbrev answered_by : Answer → Verdict
answered_by a = cond (eqb a.number 0) Passed (Failed a.number a.place a.count)

answered_back : (e : Refusal) → answered_by (answer (failed e) 0) ≡ failed e
answered_back UnevenList = refl
answered_back Unsound = refl
answered_back TooManyRecords = refl
answered_back (BadRecord Kind k) = refl
answered_back (BadRecord Location k) = refl
answered_back (BadRecord BadRun k) = refl
answered_back (BadRecord Order k) = refl
answered_back (BadRecord Alone k) = refl
answered_back (TooManyRows n) = refl
answered_back (NoRoom n) = refl
answered_back (NoSuchRow r) = refl

abbrev unread_answer : Answer → Result ℕ Refusal
unread_answer a = handed_back a.count (answered_by a)

answer_back : (a : Result ℕ Refusal) → unread_answer (answer_told a) ≡ a
answer_back (Ok rows) = refl
answer_back (Err e) =
    let a = answer (failed e) 0 in
    ap (handed_back a.count) (answered_back e) ∙ refused_back a.count e

pub answer_once : (x : Answer) (a b : Result ℕ Refusal) → answer_told a ≡ x → answer_told b ≡ x → a ≡ b
answer_once = read_once answer_told unread_answer answer_back

-- ---- the mappings of one row
abbrev row_became : Became → Option NewPre
row_became (Row new) = Some new
row_became Gone = None
row_became (NotBecame number place count) = None

abbrev became_by : Became → Verdict
became_by (Row new) = Passed
became_by Gone = Passed
became_by (NotBecame number place count) = Failed number place count

became_by_back : (v : Verdict) → became_by (became v gone) ≡ v
became_by_back Passed = refl
became_by_back (Failed number place count) = refl

abbrev unread_became : Became → Result (Option NewPre) Refusal
unread_became b = handed_back (row_became b) (became_by b)

became_back : (a : Result (Option NewPre) Refusal) → unread_became (became_told a) ≡ a
became_back (Ok (Some new)) = refl
became_back (Ok None) = refl
became_back (Err e) =
    let b = became (failed e) gone in
    ap (handed_back (row_became b)) (became_by_back (failed e)) ∙ refused_back (row_became b) e

pub became_once : (x : Became) (a b : Result (Option NewPre) Refusal) → became_told a ≡ x → became_told b ≡ x → a ≡ b
became_once = read_once became_told unread_became became_back

abbrev source_was : Was → Source
source_was (WasOld r) = Old r
source_was (WasRun k i) = Run k i
source_was (NotWas number place count) = Run number place

abbrev was_by : Was → Verdict
was_by (WasOld r) = Passed
was_by (WasRun k i) = Passed
was_by (NotWas number place count) = Failed number place count

was_by_back : (v : Verdict) → was_by (was v (old 0)) ≡ v
was_by_back Passed = refl
was_by_back (Failed number place count) = refl

abbrev unread_was : Was → Result Source Refusal
unread_was w = handed_back (source_was w) (was_by w)

was_back : (a : Result Source Refusal) → unread_was (was_told a) ≡ a
was_back (Ok (Old r)) = refl
was_back (Ok (Run k i)) = refl
was_back (Err e) =
    let w = was (failed e) (old 0) in
    ap (handed_back (source_was w)) (was_by_back (failed e)) ∙ refused_back (source_was w) e

pub was_once : (x : Was) (a b : Result Source Refusal) → was_told a ≡ x → was_told b ≡ x → a ≡ b
was_once = read_once was_told unread_was was_back
