-- `mapping::map_new` meets its contract, where the list's columns are uneven.
use Rattle.mapping.proofs.Answers.{new_uneven}
use Rattle.mapping.proofs.map_new.Goals as goal

pub returns-in_err-try_from : goal.returns-in_err-try_from
returns-in_err-try_from c =
    new_uneven _ _ _ _ _ c.from_residual.ensures.1 c.in_err-try_from.ensures
