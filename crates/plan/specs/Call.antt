-- The calls: the published tests in their order, and what an accepted call writes.
-- Assumes nothing.
use Rattle.std.specs.Prelude.{ℕ, suc, ◌≡◌, Bool, true, false, ◌&&◌, List, [], ◌∷◌, ◌++◌, leb, eqb, length, drop, Option, Some, None}
use Rattle.plan.specs.declared.Record.{Record}
use Rattle.plan.specs.declared.Answer.{Answer}
use Rattle.plan.specs.Verdict.{Verdict}
use Rattle.plan.specs.Verdict.{Passed, Failed}
use Rattle.plan.specs.Verdict.{Judgement}
use Rattle.plan.specs.Verdict.{Needs, Refused}
use Rattle.plan.specs.Answer.{accepted, refused}
use Rattle.plan.specs.Tree.{Forest, count}
use Rattle.plan.specs.Table.{Table, table, even, sound, most_rows}
use Rattle.plan.specs.Change.{Change, meaning, kept}
use Rattle.plan.specs.Paint.{old, Painted, plan, written}
use Rattle.plan.specs.Records.{changes, failing}
use Rattle.plan.specs.Lent.{Lent, level, list}

-- go on with the next tests if these passed
abbrev pub then : Verdict → Verdict → Verdict
then Passed v = v
then (Failed number place count) v = Failed number place count

abbrev pub test : Bool → (number place count : ℕ) → Verdict
test true number place count = Passed
test false number place count = Failed number place count

-- tests 4 to 8, record by record: the first record that fails one decides
unfoldable pub tested : {A : Type 0} → Forest A → Table → ℕ → Option Record → List Record → Verdict
tested t i k b [] = Passed
tested t i k b (r ∷ rs) =
    let n = failing t i b r in then (test (eqb n 0) n k 0) (tested t i (suc k) (Some r) rs)

-- the painted tree that a list turns the table's tree into
unfoldable pub result : Table → Table → List Record → Forest Painted
result t i l = meaning (changes i 0 l) (plan old t)

-- the changes of a list that are kept
abbrev pub kept_of : (t i : Table) → List Record → List (Change Painted)
kept_of t i l = kept (plan old t) [] (changes i 0 l)

abbrev pub most_records : ℕ
most_records = 1024

-- tests 1 to 9: of columns that are even or not, the table t, the insertions i and the list l
unfoldable pub judged : Bool → Table → Table → List Record → Verdict
judged evens t i l =
    let n = count (result t i l) in
    then (test evens 1 0 0)
    (then (test (sound t) 2 0 0)
    (then (test (leb (length l) most_records) 3 0 0)
    (then (tested (plan old t) i 0 None l)
    (test (leb n most_rows) 9 0 n))))

-- the bulk call: tests 1 to 10, with the new columns u
unfoldable pub bulk : Bool → Table → Table → List Record → Table → Verdict
bulk evens t i l u =
    let n = count (result t i l) in
    then (judged (evens && (even t && (even i && even u))) t i l) (test (leb n (length u.size)) 10 0 n)

-- what it hands back
abbrev pub answer : Verdict → (rows : ℕ) → Answer
answer Passed rows = accepted rows
answer (Failed number place count) rows = refused number place count

-- what the new columns then hold: the first rows are the new table's, the rows behind stay
abbrev pub over : Table → Table → Table
over t u =
    let n = length t.size in
    table (t.dist ++ drop n u.dist) (t.size ++ drop n u.size) (t.value ++ drop n u.value)

abbrev pub held : Verdict → Table → Table → Table
held Passed t u = over t u
held (Failed number place count) t u = u

-- a bulk or single call is done: a list l, of even columns or not, on the table t with the insertions i. a is the
-- answer, and the new columns u became w
pub record Done (evens : Bool) (t i : Table) (l : List Record) (u : Table) (a : Answer) (w : Table) : Type 0 where
  pub answered : a ≡ answer (bulk evens t i l u) (count (result t i l))
  pub columns : w ≡ held (bulk evens t i l u) (written (result t i l)) u

-- ---- the judgement alone: tests 1 to 9, and the rows needed
abbrev pub judgement : Verdict → (rows : ℕ) → Judgement
judgement Passed rows = Needs rows
judgement (Failed number place count) rows = Refused number place count

abbrev pub published_of : Bool → Table → Table → List Record → Judgement
published_of evens t i l = judgement (judged evens t i l) (count (result t i l))

-- of a list lent as columns: test 1, and the judgement
abbrev pub evens : Table → Table → Lent → Bool
evens t i l = level l && (even t && even i)

abbrev pub published : Table → Table → Lent → Judgement
published t i l = published_of (evens t i l) t i (list l)
