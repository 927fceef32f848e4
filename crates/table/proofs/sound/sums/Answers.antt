-- `table::sound::sums` meets its contract: the rows passed are in order, and the sum is theirs.
use Rattle.std.proofs.Common.{refl, arith}
use Rattle.table.proofs.Sum.{shape_near}
use Rattle.table.proofs.Adding.{adding_first, adding_next, adding_last, no_fit}
use Rattle.table.proofs.sound.sums.Goals as goal
use Rattle.table.proofs.sound.sums.Goals.{then-d-eq0-via-then-d-eq0, then-d-eq0-via-else-d-eq0+then-d-r}
use Rattle.table.proofs.sound.sums.Goals.{then-s-eq0-via-then-s-eq0, then-s-eq0-via-else-s-eq0+then-d-s}

pub loop-r-init : goal.loop-r-init
loop-r-init c = adding_first _ _ c.requires

pub returns-then-d-eq0 : goal.returns-then-d-eq0
returns-then-d-eq0 c =
    λ h.
    let w = shape_near _ _ c.loop-r.r (omega arith) (omega arith) h in
    elim c.then-d-eq0.branch [
      | then-d-eq0-via-then-d-eq0 v ↦ omega (arith, w.before, w.fine.far)
      | then-d-eq0-via-else-d-eq0+then-d-r v ↦ omega (arith, w.before, w.fine.far)
    ]

pub returns-then-s-eq0 : goal.returns-then-s-eq0
returns-then-s-eq0 c =
    let r = c.loop-r.r in
    λ h.
    let w = shape_near _ _ r (omega arith) (omega arith) h in
    elim c.then-s-eq0.branch [
      | then-s-eq0-via-then-s-eq0 v ↦ omega (arith, w.fine.some)
      | then-s-eq0-via-else-s-eq0+then-d-s v ↦ no_fit _ _ r _ (omega arith) v.if-d-s.true w
    ]

pub loop-r-preserved : goal.loop-r-preserved
loop-r-preserved c =
    let r = c.loop-r.r in
    adding_next _ _ r _ _ _ (omega arith) (omega arith) (omega arith) (omega arith)
    (omega (arith, c.type_inv.size r)) c.if-d-s.false refl c.loop-r.invariant

pub returns : goal.returns
returns c = adding_last _ _ c.loop-r.r _ _ c.requires (omega arith) c.loop-r.invariant refl
