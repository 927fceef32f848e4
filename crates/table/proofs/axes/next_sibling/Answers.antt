-- `table::axes::next_sibling` meets its contract.
use Rattle.std.proofs.Common.{refl, arith}
use Rattle.plan.specs.Told.{reply_told}
use Rattle.table.proofs.Told.{handed_on, parent-told, sibling_handed, sibling_none}
use Rattle.table.proofs.Replies.{sibling_empty, sibling_too_long, sibling_too_far, sibling_is_none, sibling_is}
use Rattle.table.proofs.axes.next_sibling.Goals as goal
use Rattle.table.proofs.axes.next_sibling.Goals.{then-s-eq0-via-then-s-eq0, then-s-eq0-via-else-s-eq0+then-e-t, then-s-eq0-via-else-s-eq0+else-e-t+then-b-e}

pub returns-in_err-q : goal.returns-in_err-q
returns-in_err-q c = handed_on reply_told _ c.from_residual.ensures.1 (sibling_handed _ _ _ c.in_err-q.ensures)

pub returns-in_default : goal.returns-in_default
returns-in_default c = sibling_none _ _ _ c.in_ok-q.ensures c.in_default.is

pub bounds-t-x : goal.bounds-t-x
bounds-t-x c = omega (arith, (parent-told _ _ _ _ c.in_ok-q.ensures c.in-Some.is).row_in.within)

pub offset_bounds-t-q : goal.offset_bounds-t-q
offset_bounds-t-q c =
    let found = parent-told _ _ _ _ c.in_ok-q.ensures c.in-Some.is in
    omega (arith, found.row_in.within, found.before)

pub bounds-t-q : goal.bounds-t-q
bounds-t-q c =
    let found = parent-told _ _ _ _ c.in_ok-q.ensures c.in-Some.is in
    omega (arith, found.row_in.within, found.before)

pub returns-then-s-eq0 : goal.returns-then-s-eq0
returns-then-s-eq0 c =
    let found = parent-told _ _ _ _ c.in_ok-q.ensures c.in-Some.is in
    elim c.then-s-eq0.branch [
      | then-s-eq0-via-then-s-eq0 w ↦ sibling_empty _ _ _ _ _ found refl refl w.if-s-eq0.true
      | then-s-eq0-via-else-s-eq0+then-e-t w ↦
          sibling_too_long _ _ _ _ _ found refl refl w.if-s-eq0.false w.if-e-t.true
      | then-s-eq0-via-else-s-eq0+else-e-t+then-b-e w ↦
          sibling_too_far _ _ _ _ _ found refl refl w.if-s-eq0.false w.if-e-t.false w.if-b-e.true
    ]

pub returns-then-b-e-2 : goal.returns-then-b-e-2
returns-then-b-e-2 c =
    sibling_is_none _ _ _ _ _ (parent-told _ _ _ _ c.in_ok-q.ensures c.in-Some.is)
    refl refl c.if-s-eq0.false c.if-e-t.false c.if-b-e-2.true

pub returns : goal.returns
returns c =
    sibling_is _ _ _ _ _ (parent-told _ _ _ _ c.in_ok-q.ensures c.in-Some.is)
    refl refl c.if-s-eq0.false c.if-e-t.false c.if-b-e.false c.if-b-e-2.false
