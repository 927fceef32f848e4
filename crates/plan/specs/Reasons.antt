-- Why a call on a list is refused, in the paper's words: one reason for each number, and the tests before it passed.
-- Assumes nothing.
use Rattle.std.specs.Prelude.{ℕ, ◌≤◌, ◌<◌, ◌≡◌, Bool, false, ◌&&◌, List, [], ◌∷◌, ◌++◌, T, length, Option, Some, None}
use Rattle.plan.specs.declared.Record.{Record}
use Rattle.plan.specs.Verdict.{Passed}
use Rattle.plan.specs.Tree.{Forest, count}
use Rattle.plan.specs.Table.{Table, even, sound, most_rows}
use Rattle.plan.specs.Paint.{old, plan}
use Rattle.plan.specs.Records.{known, located, runs, follows, alone}
use Rattle.plan.specs.Call.{tested, result, most_records, judged}

-- what stands before a record behind these records
abbrev pub last : Option Record → List Record → Option Record
last b [] = b
last b (r ∷ rs) = last (Some r) rs

-- the record r behind b fails the test n, and none with a lower number
pub data Fails {A : Type 0} (t : Forest A) (i : Table) (b : Option Record) (r : Record) : (n : ℕ) → Type 0 where
  four : known r ≡ false → Fails t i b r 4
  five : T (known r) → located t r ≡ false → Fails t i b r 5
  six : T (known r) → T (located t r) → runs i r ≡ false → Fails t i b r 6
  seven : T (known r) → T (located t r) → T (runs i r) → follows b r ≡ false → Fails t i b r 7
  eight : T (known r) → T (located t r) → T (runs i r) → T (follows b r) → alone b r ≡ false → Fails t i b r 8

-- the record at this place does, and every earlier record passes all
pub record FailsAt (t i : Table) (l : List Record) (n place : ℕ) : Type 0 where
  pub earlier : List Record
  pub bad : Record
  pub later : List Record
  pub whole : l ≡ earlier ++ (bad ∷ later)
  pub at_place : length earlier ≡ place
  pub earlier_pass : tested (plan old t) i 0 None earlier ≡ Passed
  pub fails : Fails (plan old t) i (last None earlier) bad n

-- a list is refused by tests 1 to 9 with this number, place and count; evens says whether all columns of the call are
-- even
pub data Judged (evens : Bool) (t i : Table) (l : List Record) : (number place count : ℕ) → Type 0 where
  uneven : evens ≡ false → Judged evens t i l 1 0 0
  unsound : T evens → sound t ≡ false → Judged evens t i l 2 0 0
  too_many : T evens → T (sound t) → most_records < length l → Judged evens t i l 3 0 0
  bad-record : (n place : ℕ) → T evens → T (sound t) → length l ≤ most_records → FailsAt t i l n place
      → Judged evens t i l n place 0
  too_large : T evens → T (sound t) → length l ≤ most_records → tested (plan old t) i 0 None l ≡ Passed
      → most_rows < count (result t i l) → Judged evens t i l 9 0 (count (result t i l))

-- or these passed, and the call's last test fails
pub data Reason (evens : Bool) (t i : Table) (l : List Record) (Last : (number place count : ℕ) → Type 0)
    : (number place count : ℕ) → Type 0 where
  by_list : {number place count : ℕ} → Judged evens t i l number place count
      → Reason evens t i l Last number place count
  by_last : {number place count : ℕ} → judged evens t i l ≡ Passed → Last number place count
      → Reason evens t i l Last number place count

-- test 10: n rows are needed, and there is less room. Test 11: row r is none of n rows
pub data NoRoom (n room : ℕ) : (number place count : ℕ) → Type 0 where
  no_room : room < n → NoRoom n room 10 0 n

pub data NoRow (n r : ℕ) : (number place count : ℕ) → Type 0 where
  no_row : n ≤ r → NoRow n r 11 r 0

-- the columns of a bulk or single call: the list's, where it is lent as columns, the table's, the insertions', the new
-- ones
abbrev pub all_even : Bool → (t i u : Table) → Bool
all_even evens t i u = evens && (even t && (even i && even u))
