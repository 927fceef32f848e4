-- `pass::tail` meets its contract. The loop's invariant: the list that was at its end still is. Each step brings the
-- pass nearer to the end.
-- Assumes nothing.
use native.Mathlib.Omega.{arith}
use Rattle.std.proofs.lemmas.Bool.Decides.{nat_tests}
use Rattle.pass.proofs.Ended.{rows-low, last_on}
use Rattle.pass.proofs.tail.Goals as goal

pub overflow_cast-n : goal.overflow_cast-n
overflow_cast-n c =
    omega (arith, rows-low c.requires.underway)

pub tail_step-c-requires : goal.tail_step-c-requires
tail_step-c-requires c =
    (last_on c.requires c.loop-n.invariant, λ e. absurd (grind (arith, nat_tests)))

pub close_all-requires : goal.close_all-requires
close_all-requires c =
    record {
      value = c.loop-n.nvalue;
      last = last_on c.requires c.loop-n.invariant;
      all = grind (arith, nat_tests);
    }
