-- `pass::close_all` meets its contract. The loop's invariant: the list that was at its end still is, and all rows are
-- copied. Each turn goes up to the parent.
-- Assumes nothing.
use Rattle.std.specs.Prelude.{◌≡◌, length}
use Rattle.plan.specs.Table.{read}
use Rattle.pass_moves.specs.Written.{row}
use Rattle.pass_way.specs.Walk.{ahead}
use Rattle.pass.specs.Underway.{Closed}
use Rattle.pass.proofs.close_all.Given as goal

abbrev pub invariant-loop-c : goal.invariant-loop-c
invariant-loop-c l =
    Closed (read l.t) l.ndist l.initial.nsize l.initial.c l.nsize l.c × (row l.c ≡ length (read l.t).size)

abbrev pub decreases-loop-c : goal.decreases-loop-c
decreases-loop-c l = ahead (read l.t) l.c
