-- `pass_way::step` meets its contract: the open row is closed, or the rows left under it are copied, all or some of
-- them.
-- Assumes nothing.
use Prim.Native.Nat.{◌<◌}
use native.Mathlib.Omega.{arith}
use mathlib.Core.Path.{refl}
use Rattle.std.proofs.lemmas.Bool.Decides.{nat_tests}
use Rattle.pass_moves.specs.Written.{out}
use Rattle.plan.specs.Table.{table}
use Rattle.pass_way.proofs.Steps.{parent-ends, can_close, went_close, can_stretch_on, went_all, some-rows-on, went-part}
use Rattle.pass_way.proofs.step.Goals as goal
use Rattle.pass_way.proofs.step.Goals.{Else-lt}

-- behind the rows that are copied there is one before row p, and one before the next new row
some_rows : (c : Else-lt) → (0 < c.args.p.0) × (0 < out c.stretch-k.result)
some_rows c =
    let k = c.stretch-k.ensures in
    some-rows-on c.requires.1 c.end-e.ensures (grind (arith, nat_tests)) c.nearer.ensures k.fact
    k.result_value (grind (arith, nat_tests)) c.requires.0

pub end-e-requires : goal.end-e-requires
end-e-requires c =
    parent-ends c.requires.0.ready

pub close-requires : goal.close-requires
close-requires c =
    can_close c.requires.0.ready c.requires.1 (grind (arith, nat_tests))

pub returns-then-eq : goal.returns-then-eq
returns-then-eq c =
    let n = c.close.ensures.nsize_after in
    went_close c.requires.1 (grind (arith, nat_tests)) (λ w. table c.args.ndist.now (n w) c.args.nvalue.now)
    c.close.ensures.result_value c.requires.0

pub stretch-k-requires : goal.stretch-k-requires
stretch-k-requires c =
    can_stretch_on c.requires.1 c.end-e.ensures (grind (arith, nat_tests)) c.nearer.ensures c.requires.0

pub returns-then-lt : goal.returns-then-lt
returns-then-lt c =
    let k = c.stretch-k.ensures in
    went_all c.requires.1 c.end-e.ensures (grind (arith, nat_tests)) c.nearer.ensures k.fact k.result_value
    (grind (arith, nat_tests)) c.requires.0

pub overflow_sub-result : goal.overflow_sub-result
overflow_sub-result c =
    omega (arith, (some_rows (goal.at.overflow_sub-result c).Else-lt).0)

pub returns : goal.returns
returns c =
    let k = c.stretch-k.ensures in
    went-part c.requires.1 c.end-e.ensures (grind (arith, nat_tests)) c.nearer.ensures k.fact k.result_value
    (grind (arith, nat_tests)) refl c.requires.0
