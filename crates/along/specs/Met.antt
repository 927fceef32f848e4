-- What the next record does to the rows, and what it takes to meet it.
-- Assumes nothing.
use Rattle.std.specs.Prelude.{ℕ, ◌<◌, List, T, length}
use Rattle.plan.specs.declared.Record.{Record}
use Rattle.plan.specs.declared.Stand.{Stand}
use Rattle.plan.specs.declared.Meeting.{Meeting}
use Rattle.plan.specs.Way.{has_run, brought, goes_on_at, meeting}
use Rattle.judge_record.specs.Way.{EndsLow, Meets}

-- what the record r does, on tables with these sizes
abbrev pub met : (size isize : List ℕ) → Stand → Record → Meeting
met size isize s r = meeting s r (goes_on_at size r) (brought isize r)

-- the record r can be met: it reaches into tables with these sizes, and is not behind
pub record Meetable (size isize : List ℕ) (s : Stand) (r : Record) : Type 0 where
  pub ends : EndsLow size r
  pub runs : T (has_run r) → r.from < length isize
  pub meets : Meets s r (brought isize r)
