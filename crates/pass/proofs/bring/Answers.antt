-- `pass::bring` meets its contract.
-- Assumes nothing.
use mathlib.Core.Path.{sym, ◌∙◌}
use Rattle.pass.proofs.Takes.{no_run, a_run}
use Rattle.pass.proofs.bring.Goals as goal

pub returns-else-has_run : goal.returns-else-has_run
returns-else-has_run c = no_run _ _ _ _ _ (sym c.has_run.ensures ∙ c.if-has_run.false)

pub returns-then-has_run : goal.returns-then-has_run
returns-then-has_run c =
    a_run _ _ _ _ _ (sym c.has_run.ensures ∙ c.if-has_run.true) c.paste.ensures
