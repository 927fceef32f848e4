-- `table::walk::start_walk` meets its contract where it starts; a refusal the check finds alone.
use Rattle.std.proofs.Common.{rules}
use Rattle.table.proofs.Replies.{start_row}
use Rattle.table.proofs.walk.start_walk.Goals as goal

pub returns : goal.returns
returns c = start_row _ _ _ (search rules)
