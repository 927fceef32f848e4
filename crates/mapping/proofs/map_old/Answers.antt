-- `mapping::map_old` meets its contract, where the list's columns are uneven.
use Rattle.mapping.proofs.Answers.{old_uneven}
use Rattle.mapping.proofs.map_old.Goals as goal

pub returns-in_err-try_from : goal.returns-in_err-try_from
returns-in_err-try_from c =
    old_uneven _ _ _ _ _ c.from_residual.ensures.1 c.in_err-try_from.ensures
