-- `pass::finish` meets its contract.
-- Assumes nothing.
use Rattle.pass.proofs.Ended.{answered}
use Rattle.pass.proofs.finish.Goals as goal

pub returns : goal.returns
returns c =
    let k = c.tail-rows.ensures in
    record { answered = λ i l w h. answered (k.0.still i l w h) k.1 k.2 }
