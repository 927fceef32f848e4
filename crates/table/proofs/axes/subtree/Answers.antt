-- `table::axes::subtree` meets its contract.
use Rattle.std.proofs.Common.{refl, arith}
use Rattle.table.proofs.Told.{top-told, part_handed}
use Rattle.table.proofs.Replies.{top-ends, part-is}
use Rattle.table.proofs.axes.subtree.Goals as goal

pub returns-in_default : goal.returns-in_default
returns-in_default c = part_handed _ _ _ c.in_default.ensures

pub slice_bounds-result-end-2 : goal.slice_bounds-result-end-2
slice_bounds-result-end-2 c =
    let found = top-told _ _ _ c.in-Ok.ensures in
    omega (arith, top-ends _ _ _ found, found.row_in.value-length)

pub returns : goal.returns
returns c = part-is _ _ _ (top-told _ _ _ c.in-Ok.ensures) _ refl
