-- `pass_way::upto` meets its contract. The loop's invariant: the pass has moved from where it was. Each step brings it
-- nearer to the end.
-- Assumes nothing.
use Rattle.pass_way.proofs.Chain.{away, went-none, went_trans, readied_on}
use Rattle.pass_way.proofs.upto.Goals as goal

pub loop-p-init : goal.loop-p-init
loop-p-init c = went-none

pub step-c-requires : goal.step-c-requires
step-c-requires c = (
  readied_on c.requires c.loop-p.invariant,
  away _ _ _ _ c.loop-p-test.true c.elsewhere.ensures,
)

pub loop-p-preserved : goal.loop-p-preserved
loop-p-preserved c =
    went_trans c.loop-p.invariant c.step-c.ensures.0
