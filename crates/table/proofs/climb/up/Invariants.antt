-- `table::climb::up` meets its contract: the row stays open at r, and each turn goes to its parent.
use Rattle.plan.specs.Axes.{cell}
use Rattle.table.specs.Rows.{Open}
use Rattle.table.proofs.climb.up.Given as goal

abbrev pub invariant-loop-x : goal.invariant-loop-x
invariant-loop-x l = Open (cell l.size) l.r l.x

abbrev pub decreases-loop-x : goal.decreases-loop-x
decreases-loop-x l = l.x
