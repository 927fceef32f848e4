-- `table::axes::parent` meets its contract.
use Rattle.std.proofs.Common.{arith}
use Rattle.plan.specs.Told.{reply_told}
use Rattle.table.proofs.Told.{handed_on, asked-told, parent_handed}
use Rattle.table.proofs.Replies.{parent-is-none, parent_too_near, parent_too_far, parent_is}
use Rattle.table.proofs.axes.parent.Goals as goal
use Rattle.table.proofs.axes.parent.Goals.{then-d-eq0-via-then-d-eq0, then-d-eq0-via-else-d-eq0+then-d-x}

pub returns-in_err-x : goal.returns-in_err-x
returns-in_err-x c = handed_on reply_told _ c.from_residual.ensures.1 (parent_handed _ _ _ c.in_err-x.ensures)

pub returns-then-x-eq0 : goal.returns-then-x-eq0
returns-then-x-eq0 c = parent-is-none _ _ _ (asked-told _ _ _ c.in_ok-x.ensures) c.if-x-eq0.true

pub returns-then-d-eq0 : goal.returns-then-d-eq0
returns-then-d-eq0 c =
    let found = asked-told _ _ _ c.in_ok-x.ensures in
    elim c.then-d-eq0.branch [
      | then-d-eq0-via-then-d-eq0 w ↦
          parent_too_near _ _ _ found (omega arith) w.if-d-eq0.true
      | then-d-eq0-via-else-d-eq0+then-d-x w ↦
          parent_too_far _ _ _ found (omega arith) w.if-d-x.true
    ]

pub returns : goal.returns
returns c =
    parent_is _ _ _ (asked-told _ _ _ c.in_ok-x.ensures) (omega arith)
    c.if-d-eq0.false c.if-d-x.false
