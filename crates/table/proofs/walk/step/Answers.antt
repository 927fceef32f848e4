-- `table::walk::step` meets its contract.
use Rattle.std.proofs.Common.{sym, refl, arith}
use Rattle.plan.proofs.Tests.{step_end}
use Rattle.table.proofs.Replies.{step_empty, step_too_far, step_is, step_past_end, size-past}
use Rattle.table.proofs.walk.step.Goals as goal
use Rattle.table.proofs.walk.step.Goals.{then-next-size-via-then-next-size, then-next-size-via-else-next-size+then-next-end-2, then-s-eq0-via-then-s-eq0, then-s-eq0-via-else-s-eq0+then-s-end}

pub returns-then-next-end : goal.returns-then-next-end
returns-then-next-end c = sym (step_end _ _ _ c.if-next-end.true)

pub returns-then-next-size : goal.returns-then-next-size
returns-then-next-size c =
    elim c.then-next-size.branch [
      | then-next-size-via-then-next-size w ↦
          step_empty _ _ _ 0 (size-past _ _ w.if-next-size.true) c.if-next-end.false refl
      | then-next-size-via-else-next-size+then-next-end-2 w ↦ step_past_end _ _ _ w.if-next-end-2.true
    ]

pub returns-then-s-eq0 : goal.returns-then-s-eq0
returns-then-s-eq0 c =
    elim c.then-s-eq0.branch [
      | then-s-eq0-via-then-s-eq0 w ↦ step_empty _ _ _ _ refl c.if-next-end.false w.if-s-eq0.true
      | then-s-eq0-via-else-s-eq0+then-s-end w ↦
          step_too_far _ _ _ _ refl c.if-next-end.false w.if-s-eq0.false (omega arith)
    ]

pub returns : goal.returns
returns c =
    step_is _ _ _ _ refl c.if-next-end.false c.if-s-eq0.false (omega arith)
