-- `along::fill::count_up` meets its contract: the numbers so far are counted up.
use mathlib.Core.Path.{◌≡◌}
use lib.ListN.{take}
use Rattle.along.specs.Rising.{rising}
use Rattle.along.proofs.fill.count_up.Given as goal

abbrev pub invariant-loop-x : goal.invariant-loop-x
invariant-loop-x l = take l.x l.part ≡ rising l.x l.first
