-- The answers as C gets them: the library's answers, case by case, as structs of plain numbers.
-- Assumes nothing.
use Rattle.std.specs.Prelude.{ℕ}
use Rattle.plan.specs.Axes.{Reply, row, nothing, refuse, Start, Walked, child, ended, stopped}
use Rattle.plan.specs.declared.PlanRow.{PlanRow}
use Rattle.plan.specs.declared.PlanPart.{PlanPart}
use Rattle.plan.specs.declared.PlanWalk.{PlanWalk}
use Rattle.plan.specs.declared.PlanStep.{PlanStep}
use Rattle.plan.specs.Mapping.{Became}
use Rattle.plan.specs.Mapping.{Row, Gone, NotBecame}
use Rattle.plan.specs.Mapping.{Was}
use Rattle.plan.specs.Mapping.{Old, Run, NotWas}
use Rattle.plan.specs.declared.PlanBecame.{PlanBecame}
use Rattle.plan.specs.declared.PlanWas.{PlanWas}

-- a row, none, or a refusal
abbrev pub row_of : Reply → PlanRow
row_of (row r) = record { number = 0; place = 0; some = 1; row = r }
row_of nothing = record { number = 0; place = 0; some = 0; row = 0 }
row_of (refuse number place) = record { number = number; place = place; some = 0; row = 0 }

-- the rows of a subtree, so many from its top on; a refused one starts at 0 and is empty
abbrev pub part_of : Reply → ℕ → PlanPart
part_of (row r) rows = record { number = 0; place = 0; start = r; length = rows }
part_of nothing rows = record { number = 0; place = 0; start = 0; length = 0 }
part_of (refuse number place) rows = record { number = number; place = place; start = 0; length = 0 }

-- a walk between a candidate and an end, with what its tests answer
abbrev pub walk_where : Reply → (next end : ℕ) → PlanWalk
walk_where (row r) next end = record { number = 0; place = 0; next = next; end = end }
walk_where nothing next end = record { number = 0; place = 0; next = next; end = end }
walk_where (refuse number place) next end = record { number = number; place = place; next = next; end = end }

abbrev pub walk_of : Start → PlanWalk
walk_of s = walk_where s.answer s.next s.end

-- a step at the candidate c, which stays there where it gives no child
abbrev pub step_of : Walked → ℕ → PlanStep
step_of (child r next) c = record { number = 0; place = 0; some = 1; row = r; next = next }
step_of ended c = record { number = 0; place = 0; some = 0; row = 0; next = c }
step_of (stopped number place) c = record { number = number; place = place; some = 0; row = 0; next = c }

-- what became of an old row
abbrev pub became_of : Became → PlanBecame
became_of (Row new) = record { number = 0; place = 0; count = 0; gone = 0; row = new.0 }
became_of Gone = record { number = 0; place = 0; count = 0; gone = 1; row = 0 }
became_of (NotBecame number place count) =
    record { number = number; place = place; count = count; gone = 0; row = 0 }

-- which row a new row was
abbrev pub was_of : Was → PlanWas
was_of (Old old) = record { number = 0; place = 0; count = 0; inserted = 0; «record» = 0; row = old.0 }
was_of (Run k i) = record { number = 0; place = 0; count = 0; inserted = 1; «record» = k; row = i }
was_of (NotWas number place count) =
    record { number = number; place = place; count = count; inserted = 0; «record» = 0; row = 0 }
