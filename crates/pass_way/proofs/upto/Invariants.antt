-- `pass_way::upto` meets its contract. The loop's invariant: the pass has moved from where it was. Each step brings it
-- nearer to the end.
-- Assumes nothing.
use Rattle.plan.specs.Table.{table, read}
use Rattle.pass_way.specs.Walk.{Went, ahead}
use Rattle.pass_way.proofs.upto.Given as goal

abbrev pub invariant-loop-p : goal.invariant-loop-p
invariant-loop-p l =
    Went (read l.t) (table l.initial.ndist l.initial.nsize l.initial.nvalue) l.initial.c l.p.0 l.q.0
    (table l.ndist l.nsize l.nvalue) l.c

abbrev pub decreases-loop-p : goal.decreases-loop-p
decreases-loop-p l = ahead (read l.t) l.c
