-- What the tests of one record answer.
-- Assumes nothing.
use Rattle.std.specs.Prelude.{ℕ, ⊤, ◌+◌, ◌≡◌, Bool, true, false, ◌&&◌, ◌||◌, List, T, leb, ltb, eqb, length, get_or, Option, Some, None, Result, Ok, Err}
use Rattle.plan.specs.declared.Record.{Record}
use Rattle.plan.specs.declared.Place.{Place}
use Rattle.plan.specs.declared.refusal.Fault.{Fault}
use Rattle.plan.specs.declared.refusal.Fault.TheVariants.{Location}
use Rattle.plan.specs.Told.{fault}
use Rattle.plan.specs.Table.{Table, table, sound, run}
use Rattle.plan.specs.Tree.{Forest}
use Rattle.plan.specs.Paint.{Painted, old, plan}
use Rattle.plan.specs.Way.{place_of}
use Rattle.plan.specs.Records.{is_insert, is_replace, located, runs, failing}

-- the answer of a test that passes or not, and finds this fault where it does not
abbrev pub trial : Bool → Fault → Result ⊤ Fault
trial true f = Ok tt
trial false f = Err f

-- an answer as the number of the test that found the fault, or 0
abbrev pub fault_told : Result ⊤ Fault → ℕ
fault_told (Ok x) = 0
fault_told (Err f) = fault f

-- the test of an open place in constant time: q ends at p, or row p is a child of q
abbrev pub quick_place : (dist size : List ℕ) → (p q : ℕ) → Bool
quick_place dist size p q =
    eqb p (q + get_or size q 0) || (ltb p (length size) && eqb (q + get_or dist p 0) p)

-- is the record an insert, and its location an open place of its parent?
abbrev pub open_for : (dist size : List ℕ) → Record → Bool
open_for dist size r =
    is_insert r && (ltb r.parent (length size) && quick_place dist size r.location r.parent)

-- p is what the record asks of the tree, whatever values make the distances and sizes a sound table
pub record Faces (dist size : List ℕ) (r : Record) (p : Place) : Type 0 where
  pub faces : (value : List ℕ) → let u = table dist size value in T (sound u) → p ≡ place_of (plan old u) r

-- its columns are equally long
pub record Even (t : Table) : Type 0 where
  pub dists : length t.dist ≡ length t.size
  pub values : length t.value ≡ length t.size

-- is there a run at row f?
abbrev pub run_at : Table → ℕ → Bool
run_at i f =
    let m = length i.size in
    ltb f m && (leb (f + get_or i.size f 0) m && sound (run i f))

-- does the record before bring the same run?
abbrev pub same_run : Option Record → Record → Bool
same_run None r = false
same_run (Some p) r = (is_insert p || is_replace p) && eqb p.from r.from

-- the record before passed test 6
pub record RunTested (i : Table) (b : Option Record) : Type 0 where
  pub passed : (p : Record) → b ≡ Some p → T (runs i p)

-- test 5 is answered right, of every tree in which the record finds this
abbrev pub RightPlace : Place → Record → Result ⊤ Fault → Type 0
RightPlace p r t = (f : Forest Painted) → p ≡ place_of f r → t ≡ trial (located f r) Location

-- tests 4 to 8 are, with the insertions i and what stands before r
abbrev pub RightTrial : Place → Table → Option Record → Record → Result ⊤ Fault → Type 0
RightTrial p i before r t = (f : Forest Painted) → p ≡ place_of f r → fault_told t ≡ failing f i before r
