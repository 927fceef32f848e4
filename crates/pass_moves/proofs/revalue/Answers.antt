-- `pass_moves::revalue` meets its contract: what is missing before the row is copied, and the row gets its value.
-- Assumes nothing.
use Rattle.pass_moves.proofs.Copies.{revalued}
use Rattle.pass_moves.proofs.revalue.Goals as goal

pub returns : goal.returns
returns c =
    rw c.copy.ensures (revalued c.unread-left.ensures c.requires c.args.a)
