-- `along::new_row::new_to_old` meets its contract: before each record the row goes on, with the records from there on
-- left.
use lib.ListN.{drop}
use Rattle.plan.specs.Table.{read}
use Rattle.along.proofs.NewRows.{Going}
use Rattle.along.proofs.new_row.new_to_old.Given as goal

abbrev pub invariant-loop-k : goal.invariant-loop-k
invariant-loop-k g l =
    let rs = g.L.Records.list l.l in
    Going l.row.0 (read l.t) (read l.i) rs l.s (drop l.k rs)
