-- `along::fill::count_up` meets its contract: the numbers so far are counted up.
use native.Mathlib.Omega.{arith}
use Rattle.along.proofs.Laying.{rising-on}
use Rattle.along.proofs.fill.count_up.Goals as goal

pub loop-x-preserved : goal.loop-x-preserved
loop-x-preserved c = rising-on _ _ _ c.loop-x.invariant (omega arith)
