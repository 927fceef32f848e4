-- What the code answers, read as the paper's answers: the published number of each refusal, with the place at fault and
-- a count.
-- Assumes nothing.
use Rattle.std.specs.Prelude.{ℕ, ⊤, Option, Some, None, Result, Ok, Err}
use Rattle.plan.specs.declared.NewPre.{NewPre}
use Rattle.plan.specs.declared.Answer.{Answer}
use Rattle.plan.specs.Verdict.{Verdict}
use Rattle.plan.specs.Verdict.{Passed, Failed}
use Rattle.plan.specs.Verdict.{Judgement}
use Rattle.plan.specs.Verdict.{Needs}
use Rattle.plan.specs.Mapping.{Became}
use Rattle.plan.specs.Mapping.{Row, Gone}
use Rattle.plan.specs.Mapping.{Was}
use Rattle.plan.specs.Mapping.{Old as WasOld, Run as WasRun}
use Rattle.plan.specs.declared.Source.{Source}
use Rattle.plan.specs.declared.Source.TheVariants.{Old, Run}
use Rattle.plan.specs.declared.Span.{Span}
use Rattle.plan.specs.declared.Child.{Child}
use Rattle.plan.specs.declared.refusal.Uneven.{Uneven}
use Rattle.plan.specs.declared.refusal.Fault.{Fault}
use Rattle.plan.specs.declared.refusal.Fault.TheVariants.{Kind, Location, Run as BadRun, Order, Alone}
use Rattle.plan.specs.declared.refusal.Refusal.{Refusal}
use Rattle.plan.specs.declared.refusal.Refusal.TheVariants.{Uneven as UnevenList, Unsound, TooManyRecords, BadRecord, TooManyRows, NoRoom, NoSuchRow}
use Rattle.plan.specs.declared.refusal.RowRefusal.{RowRefusal}
use Rattle.plan.specs.declared.refusal.RowRefusal.TheVariants.{Uneven as UnevenTable, NoSuchRow as NoRow, Broken}
use Rattle.plan.specs.declared.refusal.Misfit.{Misfit}
use Rattle.plan.specs.Answer.{accepted, refused}
use Rattle.plan.specs.Call.{answer, judgement}
use Rattle.plan.specs.Mapping.{gone, became, was}
use Rattle.plan.specs.Paint.{old}
use Rattle.plan.specs.Axes.{Reply, row, nothing, refuse, Start, Walked, child, ended, stopped}

-- ---- calls on a list
-- the test that finds the fault
abbrev pub fault : Fault → ℕ
fault Kind = 4
fault Location = 5
fault BadRun = 6
fault Order = 7
fault Alone = 8

abbrev pub failed : Refusal → Verdict
failed UnevenList = Failed 1 0 0
failed Unsound = Failed 2 0 0
failed TooManyRecords = Failed 3 0 0
failed (BadRecord f k) = Failed (fault f) k 0
failed (TooManyRows n) = Failed 9 0 n
failed (NoRoom n) = Failed 10 0 n
failed (NoSuchRow r) = Failed 11 r 0

-- as a call hands it back
abbrev pub refused_answer : Refusal → Answer
refused_answer e = answer (failed e) 0

-- some tests; test 1 alone
abbrev pub verdict_told : Result ⊤ Refusal → Verdict
verdict_told (Ok x) = Passed
verdict_told (Err e) = failed e

abbrev pub even_told : Result ⊤ Uneven → Verdict
even_told (Ok x) = Passed
even_told (Err e) = Failed 1 0 0

-- the judgement of a list
abbrev pub judgement_told : Result ℕ Refusal → Judgement
judgement_told (Ok rows) = Needs rows
judgement_told (Err e) = judgement (failed e) 0

-- a whole call
abbrev pub answer_told : Result ℕ Refusal → Answer
answer_told (Ok rows) = accepted rows
answer_told (Err e) = refused_answer e

-- the mappings of one row
abbrev pub became_told : Result (Option NewPre) Refusal → Became
became_told (Ok (Some new)) = Row new
became_told (Ok None) = Gone
became_told (Err e) = became (failed e) gone

abbrev pub was_told : Result Source Refusal → Was
was_told (Ok (Old r)) = WasOld r
was_told (Ok (Run k i)) = WasRun k i
was_told (Err e) = was (failed e) (old 0)

-- ---- calls on one row
abbrev pub refused_told : RowRefusal → Reply
refused_told UnevenTable = refuse 1 0
refused_told (NoRow r) = refuse 11 r
refused_told (Broken r) = refuse 12 r

-- as C is told
abbrev pub row_answer : RowRefusal → Answer
row_answer UnevenTable = refused 1 0 0
row_answer (NoRow r) = refused 11 r 0
row_answer (Broken r) = refused 12 r 0

-- a row, or none; a row
abbrev pub reply_told : Result (Option ℕ) RowRefusal → Reply
reply_told (Ok (Some r)) = row r
reply_told (Ok None) = nothing
reply_told (Err e) = refused_told e

abbrev pub row_told : Result ℕ RowRefusal → Reply
row_told (Ok r) = row r
row_told (Err e) = refused_told e

-- the start of a walk: a refused one stands at its end
abbrev pub start_told : Result Span RowRefusal → Start
start_told (Ok s) = record { answer = row s.top; next = s.next; end = s.end }
start_told (Err e) = record { answer = refused_told e; next = 0; end = 0 }

-- a step of it
abbrev pub step_told : Result (Option Child) Misfit → Walked
step_told (Ok (Some c)) = child c.row c.next
step_told (Ok None) = ended
step_told (Err e) = stopped 12 e.0
