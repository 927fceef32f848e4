-- `table::test_even` meets its contract.
use Rattle.plan.proofs.Verdicts.{passing, failing}
use Rattle.plan.proofs.Tests.{even_of, uneven-dist, uneven-value}
use Rattle.table.proofs.test_even.Goals as goal
use Rattle.table.proofs.test_even.Goals.{then-t-n-via-then-t-n, then-t-n-via-else-t-n+then-t-n-2}

pub returns-then-t-n : goal.returns-then-t-n
returns-then-t-n c =
    failing _ 1 0 0
    (elim c.then-t-n.branch [
      | then-t-n-via-then-t-n w ↦ uneven-dist _ w.if-t-n.true
      | then-t-n-via-else-t-n+then-t-n-2 w ↦ uneven-value _ w.if-t-n.false w.if-t-n-2.true
    ])

pub returns : goal.returns
returns c = passing _ 1 0 0 (even_of _ c.if-t-n.false c.if-t-n-2.false)
