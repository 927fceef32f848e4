-- `pass_moves::rehang` meets its contract. The loop's invariant: the first j distances are copied.
-- Assumes nothing.
use mathlib.Core.Path.{◌≡◌}
use lib.ListN.{drop}
use Rattle.pass_moves.specs.Written.{copied, rehung}
use Rattle.pass_moves.proofs.rehang.Given as goal

abbrev pub invariant-loop-j : goal.invariant-loop-j
invariant-loop-j l = l.new ≡ copied l.initial.new l.at (rehung l.d 0 (drop l.from l.dist)) 0 l.j
