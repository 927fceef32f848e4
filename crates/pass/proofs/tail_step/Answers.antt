-- `pass::tail_step` meets its contract: the open row is closed, or the rows left under it are copied.
-- Assumes nothing.
use Prim.Native.Nat.{◌-◌}
use native.Mathlib.Omega.{arith}
use Rattle.std.proofs.lemmas.Bool.Decides.{nat_tests}
use Rattle.pass_moves.specs.Written.{out}
use Rattle.plan.specs.Table.{table}
use Rattle.pass.proofs.AtOnce.{sized-is, parent-ends, can_copy, copied, copied-kept, copied_less, can_close_it, closed_less, copied-closed}
use Rattle.pass.proofs.tail_step.Goals as goal

pub end-e-requires : goal.end-e-requires
end-e-requires c =
    parent-ends c.requires.0.underway

pub close-requires : goal.close-requires
close-requires c =
    can_close_it c.requires.0.underway c.requires.1 (grind (arith, nat_tests))

pub returns-then-eq : goal.returns-then-eq
returns-then-eq c =
    let k = c.close.ensures.result_value in
    let x = table c.args.ndist.now c.args.nsize.now c.args.nvalue.now in
    let u = sized-is x c.args.c.under.0 (out c.args.c - c.args.c.under.0) c.close.ensures.nsize_after in (
      copied-closed c.requires.1 (grind (arith, nat_tests)) u k,
      closed_less c.requires.0.underway c.requires.1 (grind (arith, nat_tests)) u k,
    )

pub stretch-requires : goal.stretch-requires
stretch-requires c =
    let e = c.end-e.ensures in
    can_copy c.requires.0.underway e

pub returns : goal.returns
returns c =
    let e = c.end-e.ensures in
    let k = c.stretch.ensures in
    let a = copied-kept c.requires.0.underway e (grind (arith, nat_tests)) k.fact k.result_value in (
      record {
        still = λ i l w U. copied U e (grind (arith, nat_tests)) k.fact k.result_value;
        dist = a.dist;
        size = a.size;
        value = a.value;
      },
      copied_less c.requires.0.underway e (grind (arith, nat_tests)) k.fact k.result_value,
    )
