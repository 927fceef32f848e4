-- `table::axes::subtree_top` meets its contract.
use Rattle.plan.specs.Told.{row_told}
use Rattle.table.proofs.Told.{handed_on, asked-told, top_handed}
use Rattle.table.proofs.Replies.{top_small, top-past, top-is}
use Rattle.table.proofs.axes.subtree_top.Goals as goal
use Rattle.table.proofs.axes.subtree_top.Goals.{then-s-eq0-via-then-s-eq0, then-s-eq0-via-else-s-eq0+then-s-t}

pub returns-in_err-x : goal.returns-in_err-x
returns-in_err-x c = handed_on row_told _ c.from_residual.ensures.1 (top_handed _ _ _ c.in_err-x.ensures)

pub returns-then-s-eq0 : goal.returns-then-s-eq0
returns-then-s-eq0 c =
    let found = asked-told _ _ _ c.in_ok-x.ensures in
    elim c.then-s-eq0.branch [
      | then-s-eq0-via-then-s-eq0 w ↦ top_small _ _ _ found w.if-s-eq0.true
      | then-s-eq0-via-else-s-eq0+then-s-t w ↦ top-past _ _ _ found w.if-s-t.true
    ]

pub returns : goal.returns
returns c =
    top-is _ _ _ (asked-told _ _ _ c.in_ok-x.ensures) c.if-s-eq0.false c.if-s-t.false
