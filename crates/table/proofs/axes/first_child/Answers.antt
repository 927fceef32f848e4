-- `table::axes::first_child` meets its contract.
use Rattle.plan.specs.Told.{reply_told}
use Rattle.table.proofs.Told.{handed_on, top-told, child_handed}
use Rattle.table.proofs.Replies.{child-is-none, child-is}
use Rattle.table.proofs.axes.first_child.Goals as goal

pub returns-in_err-x : goal.returns-in_err-x
returns-in_err-x c = handed_on reply_told _ c.from_residual.ensures.1 (child_handed _ _ _ c.in_err-x.ensures)

pub returns-then-t-x-lt2 : goal.returns-then-t-x-lt2
returns-then-t-x-lt2 c = child-is-none _ _ _ (top-told _ _ _ c.in_ok-x.ensures) c.if-t-x-lt2.true

pub returns : goal.returns
returns c = child-is _ _ _ (top-told _ _ _ c.in_ok-x.ensures) c.if-t-x-lt2.false
