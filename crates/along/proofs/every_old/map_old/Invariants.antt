-- `along::every_old::map_old` meets its contract: before each record the column is under way, with the records from
-- there on left.
use lib.ListN.{drop}
use Rattle.plan.specs.Table.{read}
use Rattle.along.proofs.OldColumns.{Going}
use Rattle.along.proofs.every_old.map_old.Given as goal

abbrev pub invariant-loop-k : goal.invariant-loop-k
invariant-loop-k g l =
    let rs = g.L.Records.list l.l in
    Going (read l.t) (read l.i) rs l.initial.number l.s l.number (drop l.k rs)
