-- `refresh::test_all` meets its contract from test 1 of the table on; test 1 of the new columns the check finds alone.
use Rattle.std.proofs.Common.{rules}
use Rattle.refresh.proofs.Settling.{judgement_refused, room_told}
use Rattle.refresh.proofs.test_all.Goals as goal

pub returns-in_err-needed : goal.returns-in_err-needed
returns-in_err-needed g c =
    judgement_refused _ _ _ _ _ _ c.from_residual-in_err-needed.ensures.1 (search rules) (search rules)

pub returns : goal.returns
returns g c = room_told _ _ _ _ c.in_ok-needed.needed _ (search rules) (search rules) (search rules)
