-- `table::sound::soundness` meets its contract from test 2 on; test 1 the check finds alone.
use Rattle.std.proofs.Common.{rules}
use Rattle.table.proofs.Told.{soundness_bad, soundness_rows}
use Rattle.table.proofs.sound.soundness.Goals as goal

pub returns-in_err-test_sound : goal.returns-in_err-test_sound
returns-in_err-test_sound c =
    soundness_bad _ _ _ c.from_residual-in_err-test_sound.ensures.1 (search rules) (search rules)

pub returns : goal.returns
returns c = soundness_rows _ (search rules) (search rules)
