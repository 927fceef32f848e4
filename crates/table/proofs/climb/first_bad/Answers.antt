-- `table::climb::first_bad` meets its contract.
use Rattle.std.proofs.Common.{arith}
use Rattle.table.proofs.Prefix.{begun-root}
use Rattle.table.proofs.Says.{says_false}
use Rattle.table.proofs.climb.first_bad.Goals as goal

pub returns-else-rooted : goal.returns-else-rooted
returns-else-rooted c =
    ((λ b. says_false _ _ c.if-rooted.false c.rooted.ensures (begun-root _ _ b)), (λ l. absurd (omega arith)))
