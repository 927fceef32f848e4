-- The two mappings of row numbers, told by the paint: which new row an old row became, and which row a new one was.
-- Assumes nothing.
use Rattle.std.specs.Prelude.{ℕ, zero, suc, ◌+◌, ◌≡◌, Bool, true, false, cond, ◌&&◌, ◌||◌, List, [], ◌∷◌, ◌++◌, map, leb, ltb, eqb, length, drop, get_or}
use Rattle.plan.specs.declared.Record.{Record}
use Rattle.plan.specs.declared.OldPre.{OldPre}
use Rattle.plan.specs.declared.NewPre.{NewPre}
use Rattle.plan.specs.declared.Answer.{Answer}
use Rattle.plan.specs.Verdict.{Verdict}
use Rattle.plan.specs.Verdict.{Passed, Failed}
use Rattle.plan.specs.Tree.{Forest, count, sizes}
use Rattle.plan.specs.Table.{Table, even}
use Rattle.plan.specs.Change.{delete, rename, replace, Change, insert, act, location, removes}
use Rattle.plan.specs.Paint.{Origin, old, new, origins}
use Rattle.plan.specs.Call.{then, test, result, judged, answer}

-- what became of an old row: a new row, or it is gone
pub data Fate : Type 0 where
  row : ℕ → Fate
  gone : Fate

-- the old row r among these origins, of which the first is that of new row j
unfoldable pub fate : List Origin → (j r : ℕ) → Fate
fate [] j r = gone
fate (old x ∷ os) j r = cond (eqb x r) (row j) (fate os (suc j) r)
fate (new k i ∷ os) j r = fate os (suc j) r

-- which row the new row r was (r is below the number of new rows)
abbrev pub origin_at : List Origin → ℕ → Origin
origin_at os r = get_or os r (old 0)

-- the tests of both mappings: 1 to 9, then 11 for a row number that is not below n
unfoldable pub queried : Bool → Table → Table → List Record → (n r : ℕ) → Verdict
queried evens t i l n r = then (judged (evens && (even t && even i)) t i l) (test (ltb r n) 11 r 0)

-- what the mapping of an old row answers: its new number; it is gone; or the refusal
pub data Became : Type 0 where
  Row : NewPre → Became
  Gone : Became
  NotBecame : (number place count : ℕ) → Became

-- and that of a new row: an old row; a record and the row in its run; or the refusal
pub data Was : Type 0 where
  Old : OldPre → Was
  Run : (record_number row : ℕ) → Was
  NotWas : (number place count : ℕ) → Was

-- an old row's fate, and a new row's origin, as an answer
abbrev pub went : Fate → Became
went (row m) = Row (record { 0 = m })
went gone = Gone

abbrev pub became : Verdict → Fate → Became
became Passed f = went f
became (Failed number place count) f = NotBecame number place count

abbrev pub came : Origin → Was
came (old r) = Old (record { 0 = r })
came (new k i) = Run k i

abbrev pub was : Verdict → Origin → Was
was Passed o = came o
was (Failed number place count) o = NotWas number place count

-- ---- whole columns
-- the number that stands for no row, and for no record
abbrev pub mark : ℕ
mark = 4294967295

abbrev pub number : Fate → ℕ
number (row r) = r
number gone = mark

-- the new numbers of n old rows, from row r on
abbrev pub new_numbers : List Origin → (n r : ℕ) → List ℕ
new_numbers os zero r = []
new_numbers os (suc n) r = number (fate os 0 r) ∷ new_numbers os n (suc r)

-- an origin as two numbers: the record, and the row in its run; or no record, and the old row
abbrev pub record_of : Origin → ℕ
record_of (old r) = mark
record_of (new k i) = k

abbrev pub row_of : Origin → ℕ
row_of (old r) = r
row_of (new k i) = i

-- the tests of both calls: 1 to 9, then 10 for lent columns of less than the n rows needed
unfoldable pub mapped : Bool → Table → Table → List Record → (n room : ℕ) → Verdict
mapped evens t i l n room = then (judged (evens && (even t && even i)) t i l) (test (leb n room) 10 0 n)

-- what a lent column then holds: these numbers first, and the rows behind stay
abbrev pub column_held : Verdict → List ℕ → List ℕ → List ℕ
column_held Passed xs u = xs ++ drop (length xs) u
column_held (Failed number place count) xs u = u

-- every old row, by a list l of even columns or not: the answer is a, and the lent column u became w
abbrev pub old_verdict : Bool → Table → Table → List Record → List ℕ → Verdict
old_verdict evens t i l u = mapped evens t i l (length t.size) (length u)

pub record OldDone (evens : Bool) (t i : Table) (l : List Record) (u : List ℕ) (a : Answer) (w : List ℕ) : Type 0 where
  pub answered : a ≡ answer (old_verdict evens t i l u) (length t.size)
  pub column : w
      ≡ column_held (old_verdict evens t i l u) (new_numbers (origins (result t i l)) (length t.size) 0) u

-- the two columns that tell the origins of new rows
pub record Places : Type 0 where
  pub records : List ℕ
  pub rows : List ℕ

abbrev pub places : (records rows : List ℕ) → Places
places records rows = record { records = records; rows = rows }

-- every new row: the answer is a, and the two lent columns u became w
abbrev pub new_verdict : Bool → Table → Table → List Record → Places → Verdict
new_verdict evens t i l u =
    let m = length u.records in mapped (eqb (length u.rows) m && evens) t i l (count (result t i l)) m

pub record NewDone (evens : Bool) (t i : Table) (l : List Record) (u : Places) (a : Answer) (w : Places) : Type 0 where
  pub answered : a ≡ answer (new_verdict evens t i l u) (count (result t i l))
  pub records : w.records ≡ column_held (new_verdict evens t i l u) (map record_of (origins (result t i l))) u.records
  pub rows : w.rows ≡ column_held (new_verdict evens t i l u) (map row_of (origins (result t i l))) u.rows

-- ---- the paper's formula
module _ {A : Type 0} where
  -- how many rows its run has, and how many old rows it removes
  abbrev pub comes : Change A → ℕ
  comes (insert p q s) = count s
  comes (act p delete) = 0
  comes (act p (rename h)) = 0
  comes (act p (replace s)) = count s

  abbrev pub goes : Forest A → Change A → ℕ
  goes t (insert p q s) = 0
  goes t (act p x) = cond (removes x) (get_or (sizes t) p 0) 0

  -- is row r one of those that it removes?
  abbrev pub takes : Forest A → ℕ → Change A → Bool
  takes t r c = leb (location c) r && ltb r (location c + goes t c)

  -- of a list of kept changes: the lengths of runs at locations up to r, the rows removed at locations below r, and
  -- whether one of them removes r
  abbrev pub come : ℕ → List (Change A) → ℕ
  come r [] = 0
  come r (c ∷ cs) = cond (leb (location c) r) (comes c) 0 + come r cs

  abbrev pub left : Forest A → ℕ → List (Change A) → ℕ
  left t r [] = 0
  left t r (c ∷ cs) = cond (ltb (location c) r) (goes t c) 0 + left t r cs

  abbrev pub taken : Forest A → ℕ → List (Change A) → Bool
  taken t r [] = false
  taken t r (c ∷ cs) = takes t r c || taken t r cs

  -- what the formula says of the old row r, where cs are the kept changes: a row that one of them removes is gone; any
  -- other becomes r, plus the lengths of runs at locations up to r, less the rows removed at locations below r
  pub data Formula (t : Forest A) (r : ℕ) (cs : List (Change A)) : Fate → Type 0 where
    removed : taken t r cs ≡ true → Formula t r cs gone
    moved : taken t r cs ≡ false → (m : ℕ) → m + left t r cs ≡ r + come r cs → Formula t r cs (row m)
