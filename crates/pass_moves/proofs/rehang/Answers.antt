-- `pass_moves::rehang` meets its contract. The loop's invariant: the first j distances are copied.
-- Assumes nothing.
use native.Mathlib.Omega.{arith}
use mathlib.Core.Path.{refl}
use Rattle.pass_moves.proofs.Copies.{copy_none, rehung-more}
use Rattle.pass_moves.proofs.rehang.Goals as goal

pub loop-j-init : goal.loop-j-init
loop-j-init c = copy_none _ _ _ _

pub loop-j-preserved : goal.loop-j-preserved
loop-j-preserved c =
    let pre = c.requires in
    rehung-more _ _ _ _ _ _ _ _ _ _ pre.0 pre.1 (omega arith) c.loop-j.invariant refl c.hang.ensures
