-- What it takes to go along a list, record by record.
-- Assumes nothing.
use Rattle.std.specs.Prelude.{ℕ, ◌+◌, ◌-◌, ◌≤◌, ◌<◌, ◌≡◌, false, List, [], ◌∷◌, T, length, get_or}
use Rattle.plan.specs.declared.Record.{Record}
use Rattle.plan.specs.declared.Stand.{Stand}
use Rattle.plan.specs.declared.Meeting.{Meeting}
use Rattle.plan.specs.declared.Meeting.TheVariants.{Vain, Renamed, Here}
use Rattle.plan.specs.Records.{is_rename}
use Rattle.plan.specs.Way.{removes_rows, vain, brought, goes_on_at, meeting}

-- the rows that it takes away lie in the table, and end at a row number
pub record EndsLow (size : List ℕ) (r : Record) : Type 0 where
  pub at_row : T (removes_rows r) → r.location < length size
  pub low : T (removes_rows r) → r.location + get_or size r.location 0 < 4294967296

-- a record that changes the rows is not behind, and so many rows that come can be counted
pub record Meets (s : Stand) (r : Record) (n : ℕ) : Type 0 where
  pub ahead : vain s.first.0 s.end.0 r ≡ false → is_rename r ≡ false → s.row.0 ≤ r.location
  pub few : vain s.first.0 s.end.0 r ≡ false → is_rename r ≡ false
      → s.out.0 + (r.location - s.row.0) + n < 4294967296

-- where the rows go on behind what a record does, and behind all records of a list
abbrev pub behind : Stand → Meeting → Stand
behind s Vain = s
behind s (Renamed next) = next
behind s (Here at n next) = next

abbrev pub stands : (size isize : List ℕ) → Stand → List Record → Stand
stands size isize s [] = s
stands size isize s (r ∷ rs) =
    stands size isize (behind s (meeting s r (goes_on_at size r) (brought isize r))) rs
