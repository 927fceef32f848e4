-- Cases A to L of the worked plan: each list, and what the paper says of it.
-- Assumes nothing.
use Rattle.std.specs.Prelude.{ℕ, true, List, [], ◌∷◌, length, replicate}
use Rattle.plan.specs.declared.Record.{Record}
use Rattle.plan.specs.declared.Answer.{Answer}
use Rattle.plan.specs.Verdict.{Verdict}
use Rattle.plan.specs.Verdict.{Passed, Failed}
use Rattle.plan.specs.Answer.{accepted, refused}
use Rattle.plan.specs.Tree.{count}
use Rattle.plan.specs.Table.{Table, table}
use Rattle.plan.specs.Change.{kept}
use Rattle.plan.specs.Paint.{Origin, old, new, plan, written, origins}
use Rattle.plan.specs.Records.{changes}
use Rattle.plan.specs.Call.{result, bulk, answer, over, held}
use Rattle.plan.specs.Mapping.{mark, new_numbers}

-- the table T and the insertions; new columns with something in them
abbrev pub plan_t : Table
plan_t =
    table (1 ∷ 1 ∷ 1 ∷ 2 ∷ 4 ∷ 1 ∷ 6 ∷ [])
    (7 ∷ 3 ∷ 1 ∷ 1 ∷ 2 ∷ 1 ∷ 1 ∷ [])
    (10 ∷ 20 ∷ 30 ∷ 31 ∷ 21 ∷ 32 ∷ 40 ∷ [])

abbrev pub insertions : Table
insertions = table (1 ∷ 1 ∷ 1 ∷ []) (2 ∷ 1 ∷ 1 ∷ []) (50 ∷ 51 ∷ 60 ∷ [])

abbrev pub lent : (room : ℕ) → Table
lent room = table (replicate room 91) (replicate room 92) (replicate room 93)

-- the records; what a kind doesn't use is 77
abbrev delete : (location : ℕ) → Record
delete p = record { kind = 1; location = p; parent = 77; from = 77; value = 77 }

abbrev insert : (location parent from : ℕ) → Record
insert p q f = record { kind = 2; location = p; parent = q; from = f; value = 77 }

abbrev rename : (location value : ℕ) → Record
rename p v = record { kind = 3; location = p; parent = 77; from = 77; value = v }

abbrev replace : (location from : ℕ) → Record
replace p f = record { kind = 4; location = p; parent = 77; from = f; value = 77 }

-- what comes of a call: the answer, what the new columns hold, each new row's origin, each old row's new number, how
-- many records are kept
pub record Outcome : Type 0 where
  pub answer : Answer
  pub columns : Table
  pub origins : List Origin
  pub numbers : List ℕ
  pub kept : ℕ

pub record Case : Type 0 where
  pub list : List Record
  pub room : ℕ
  pub outcome : Outcome

-- by the definitions
abbrev told : {X : Type 0} → Verdict → X → X → X
told Passed x y = x
told (Failed number place count) x y = y

abbrev pub computed : Case → Outcome
computed c =
    let f = result plan_t insertions c.list in
    let v = bulk true plan_t insertions c.list (lent c.room) in
    record {
      answer = answer v (count f);
      columns = held v (written f) (lent c.room);
      origins = told v (origins f) [];
      numbers = told v (new_numbers (origins f) 7 0) [];
      kept = told v (length (kept (plan old plan_t) [] (changes insertions 0 c.list))) 0;
    }

-- by the paper
abbrev gives : List Record → (dists sizes values : List ℕ) → List Origin → (numbers : List ℕ) → (kept : ℕ) → Case
gives l d s v o n k =
    record {
      list = l;
      room = 9;
      outcome = record {
        answer = accepted (length s);
        columns = over (table d s v) (lent 9);
        origins = o;
        numbers = n;
        kept = k;
      };
    }

abbrev refuses : List Record → (room number place count : ℕ) → Case
refuses l room n p c =
    record {
      list = l;
      room = room;
      outcome = record { answer = refused n p c; columns = lent room; origins = []; numbers = []; kept = 0 };
    }

abbrev list_a : List Record
list_a = insert 2 1 2 ∷ delete 4 ∷ insert 6 0 0 ∷ []

abbrev pub cases : List Case
cases =
    -- A
    gives list_a
    (1 ∷ 1 ∷ 1 ∷ 2 ∷ 3 ∷ 5 ∷ 1 ∷ 7 ∷ [])
    (8 ∷ 4 ∷ 1 ∷ 1 ∷ 1 ∷ 2 ∷ 1 ∷ 1 ∷ [])
    (10 ∷ 20 ∷ 60 ∷ 30 ∷ 31 ∷ 50 ∷ 51 ∷ 40 ∷ [])
    (old 0 ∷ old 1 ∷ new 0 0 ∷ old 2 ∷ old 3 ∷ new 2 0 ∷ new 2 1 ∷ old 6 ∷ [])
    (0 ∷ 1 ∷ 3 ∷ 4 ∷ mark ∷ mark ∷ 7 ∷ [])
    3
    -- B
    ∷ gives (delete 4 ∷ insert 6 4 2 ∷ insert 6 0 0 ∷ [])
    (1 ∷ 1 ∷ 1 ∷ 2 ∷ 4 ∷ 1 ∷ 6 ∷ [])
    (7 ∷ 3 ∷ 1 ∷ 1 ∷ 2 ∷ 1 ∷ 1 ∷ [])
    (10 ∷ 20 ∷ 30 ∷ 31 ∷ 50 ∷ 51 ∷ 40 ∷ [])
    (old 0 ∷ old 1 ∷ old 2 ∷ old 3 ∷ new 2 0 ∷ new 2 1 ∷ old 6 ∷ [])
    (0 ∷ 1 ∷ 2 ∷ 3 ∷ mark ∷ mark ∷ 6 ∷ [])
    2
    -- C
    ∷ refuses (insert 6 0 0 ∷ insert 6 4 2 ∷ []) 9 7 1 0
    -- D
    ∷ gives (insert 4 0 2 ∷ delete 4 ∷ [])
    (1 ∷ 1 ∷ 1 ∷ 2 ∷ 4 ∷ 5 ∷ [])
    (6 ∷ 3 ∷ 1 ∷ 1 ∷ 1 ∷ 1 ∷ [])
    (10 ∷ 20 ∷ 30 ∷ 31 ∷ 60 ∷ 40 ∷ [])
    (old 0 ∷ old 1 ∷ old 2 ∷ old 3 ∷ new 0 0 ∷ old 6 ∷ [])
    (0 ∷ 1 ∷ 2 ∷ 3 ∷ mark ∷ mark ∷ 5 ∷ [])
    2
    -- E
    ∷ refuses (delete 4 ∷ insert 4 0 2 ∷ []) 9 7 1 0
    -- F
    ∷ refuses (rename 4 9 ∷ delete 4 ∷ []) 9 8 1 0
    -- G
    ∷ refuses (delete 0 ∷ []) 9 5 0 0
    ∷ gives (rename 0 9 ∷ [])
    (1 ∷ 1 ∷ 1 ∷ 2 ∷ 4 ∷ 1 ∷ 6 ∷ [])
    (7 ∷ 3 ∷ 1 ∷ 1 ∷ 2 ∷ 1 ∷ 1 ∷ [])
    (9 ∷ 20 ∷ 30 ∷ 31 ∷ 21 ∷ 32 ∷ 40 ∷ [])
    (old 0 ∷ old 1 ∷ old 2 ∷ old 3 ∷ old 4 ∷ old 5 ∷ old 6 ∷ [])
    (0 ∷ 1 ∷ 2 ∷ 3 ∷ 4 ∷ 5 ∷ 6 ∷ [])
    1
    -- H
    ∷ refuses (insert 5 0 2 ∷ []) 9 5 0 0
    -- I
    ∷ gives (insert 3 2 2 ∷ [])
    (1 ∷ 1 ∷ 1 ∷ 1 ∷ 3 ∷ 5 ∷ 1 ∷ 7 ∷ [])
    (8 ∷ 4 ∷ 2 ∷ 1 ∷ 1 ∷ 2 ∷ 1 ∷ 1 ∷ [])
    (10 ∷ 20 ∷ 30 ∷ 60 ∷ 31 ∷ 21 ∷ 32 ∷ 40 ∷ [])
    (old 0 ∷ old 1 ∷ old 2 ∷ new 0 0 ∷ old 3 ∷ old 4 ∷ old 5 ∷ old 6 ∷ [])
    (0 ∷ 1 ∷ 2 ∷ 4 ∷ 5 ∷ 6 ∷ 7 ∷ [])
    1
    -- J
    ∷ gives []
    (1 ∷ 1 ∷ 1 ∷ 2 ∷ 4 ∷ 1 ∷ 6 ∷ [])
    (7 ∷ 3 ∷ 1 ∷ 1 ∷ 2 ∷ 1 ∷ 1 ∷ [])
    (10 ∷ 20 ∷ 30 ∷ 31 ∷ 21 ∷ 32 ∷ 40 ∷ [])
    (old 0 ∷ old 1 ∷ old 2 ∷ old 3 ∷ old 4 ∷ old 5 ∷ old 6 ∷ [])
    (0 ∷ 1 ∷ 2 ∷ 3 ∷ 4 ∷ 5 ∷ 6 ∷ [])
    0
    -- K
    ∷ gives (replace 1 2 ∷ [])
    (1 ∷ 1 ∷ 2 ∷ 1 ∷ 4 ∷ [])
    (5 ∷ 1 ∷ 2 ∷ 1 ∷ 1 ∷ [])
    (10 ∷ 60 ∷ 21 ∷ 32 ∷ 40 ∷ [])
    (old 0 ∷ new 0 0 ∷ old 4 ∷ old 5 ∷ old 6 ∷ [])
    (0 ∷ mark ∷ mark ∷ mark ∷ 2 ∷ 3 ∷ 4 ∷ [])
    1
    -- L
    ∷ refuses list_a 7 10 0 8
    ∷ []
