-- Before each record the exam goes on, with the records from there on left.
use Rattle.std.proofs.Common.{drop}
use Rattle.plan.specs.Table.{read}
use Rattle.judge.proofs.Onward.{Along}
use Rattle.judge.proofs.exam.judged.Given as goal

abbrev pub invariant-loop-j : goal.invariant-loop-j
invariant-loop-j g l =
    let list = g.L.Records.list l.l in Along (read l.t) (read l.i) list l.before l.stand l.j (drop l.j list)
