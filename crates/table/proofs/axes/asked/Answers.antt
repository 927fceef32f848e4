-- `table::axes::asked` meets its contract.
use Rattle.std.proofs.Common.{refl, arith}
use Rattle.plan.specs.Told.{row_told}
use Rattle.plan.proofs.Verdicts.{passed-told, failed_told}
use Rattle.plan.proofs.Tests.{reply-passed, reply_failed, asked-uneven, asked-past, asked_of}
use Rattle.table.proofs.Told.{handed_on}
use Rattle.table.proofs.axes.asked.Goals as goal

pub returns-in_err-test_even : goal.returns-in_err-test_even
returns-in_err-test_even c =
    handed_on row_told _ c.from_residual.ensures.1
    (reply_failed _ _ 1 0 0 (asked-uneven _ _ (failed_told _ 1 0 0 c.in_err-test_even.ensures refl)))

pub returns-then-x-t : goal.returns-then-x-t
returns-then-x-t c =
    let even = passed-told _ 1 0 0 c.in_ok-test_even.ensures refl in
    reply_failed _ _ 11 _ 0 (asked-past _ _ even (omega arith))

pub returns : goal.returns
returns c =
    let even = passed-told _ 1 0 0 c.in_ok-test_even.ensures refl in
    reply-passed _ _ (asked_of _ _ even (omega arith))
