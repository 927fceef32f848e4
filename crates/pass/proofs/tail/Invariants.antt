-- `pass::tail` meets its contract. The loop's invariant: the list that was at its end still is. Each step brings the
-- pass nearer to the end.
-- Assumes nothing.
use Rattle.plan.specs.Table.{table, read}
use Rattle.pass_way.specs.Walk.{ahead}
use Rattle.pass.specs.Underway.{Copied}
use Rattle.pass.proofs.tail.Given as goal

abbrev pub invariant-loop-n : goal.invariant-loop-n
invariant-loop-n l =
    Copied (read l.t) (table l.initial.ndist l.initial.nsize l.initial.nvalue) l.initial.c
    (table l.ndist l.nsize l.nvalue) l.c

abbrev pub decreases-loop-n : goal.decreases-loop-n
decreases-loop-n l = ahead (read l.t) l.c
