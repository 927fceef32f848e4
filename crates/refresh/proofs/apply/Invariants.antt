-- Before each record the pass is underway, with the records from there on left.
use Rattle.std.proofs.Common.{drop}
use Rattle.plan.specs.Table.{table, read}
use Rattle.pass.specs.Underway.{Underway}
use Rattle.refresh.proofs.apply.Given as goal

abbrev pub invariant-loop-j : goal.invariant-loop-j
invariant-loop-j g l =
    let list = g.L.Records.list l.l in
    let w = table l.fn.ndist l.fn.nsize l.fn.nvalue in
    let u = table l.ndist l.nsize l.nvalue in
    Underway (read l.t) (read l.i) list w u l.c (drop l.j list)
