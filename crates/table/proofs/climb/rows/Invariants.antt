-- `table::climb::rows` meets its contract: the rows passed have parents, and x is where to start the climb.
use Rattle.std.proofs.Common.{◌≤◌, length}
use Rattle.plan.specs.Axes.{cell}
use Rattle.table.specs.Rows.{Open, Rows}
use Rattle.table.proofs.climb.rows.Given as goal

abbrev pub invariant-loop-r : goal.invariant-loop-r
invariant-loop-r l =
    (l.r ≤ length l.size) × Open (cell l.size) l.r l.x × Rows (cell l.size) (cell l.dist) (length l.size) l.r
