-- `along::every_new::map_new` meets its contract: before each record the columns are under way, with the records from
-- there on left.
use lib.ListN.{drop}
use Rattle.plan.specs.Table.{read}
use Rattle.plan.specs.Mapping.{places}
use Rattle.along.proofs.NewColumns.{Going}
use Rattle.along.proofs.every_new.map_new.Given as goal

abbrev pub invariant-loop-k : goal.invariant-loop-k
invariant-loop-k g l =
    let rs = g.L.Records.list l.l in
    let u = places l.initial.records l.initial.rows in
    Going (read l.t) (read l.i) rs u l.s (places l.records l.rows) (drop l.k rs)
