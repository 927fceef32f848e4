-- `pass_moves::copy` meets its contract. The loop's invariant: the first j numbers are copied.
-- Assumes nothing.
use native.Mathlib.Omega.{arith}
use Rattle.pass_moves.proofs.Copies.{copy_none, copy_more}
use Rattle.pass_moves.proofs.copy.Goals as goal

pub loop-j-init : goal.loop-j-init
loop-j-init c = copy_none _ _ _ _

pub loop-j-preserved : goal.loop-j-preserved
loop-j-preserved c =
    let pre = c.requires in
    copy_more _ _ _ _ _ _ _ pre.0 pre.1 (omega arith) c.loop-j.invariant
