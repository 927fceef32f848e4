-- `table::climb::up` meets its contract: the row stays open at r, and each turn goes to its parent.
use Rattle.std.proofs.Common.{arith}
use Rattle.table.proofs.Upward.{upward, open_at}
use Rattle.table.proofs.climb.up.Goals as goal

pub overflow_sub-x : goal.overflow_sub-x
overflow_sub-x c =
    let rise = upward _ _ _ _ _ c.requires c.loop-x.invariant (omega arith) in
    omega (arith, rise.far)

pub loop-x-smaller : goal.loop-x-smaller
loop-x-smaller c =
    let rise = upward _ _ _ _ _ c.requires c.loop-x.invariant (omega arith) in
    omega (arith, rise.far, rise.less)

pub loop-x-preserved : goal.loop-x-preserved
loop-x-preserved c =
    let rise = upward _ _ _ _ _ c.requires c.loop-x.invariant (omega arith) in
    open_at _ _ _ _ (omega (arith, rise.far)) rise.there
