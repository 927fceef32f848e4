-- `table::sound::sums` meets its contract: the rows passed are in order, and the sum is theirs.
use Rattle.table.proofs.Adding.{Adding}
use Rattle.table.proofs.sound.sums.Given as goal

abbrev pub invariant-loop-r : goal.invariant-loop-r
invariant-loop-r l = Adding l.dist l.size l.r l.sum
