-- `pass_moves::copy` meets its contract. The loop's invariant: the first j numbers are copied.
-- Assumes nothing.
use mathlib.Core.Path.{◌≡◌}
use Rattle.pass_moves.specs.Written.{copied}
use Rattle.pass_moves.proofs.copy.Given as goal

abbrev pub invariant-loop-j : goal.invariant-loop-j
invariant-loop-j l = l.new ≡ copied l.initial.new l.at l.column l.from l.j
