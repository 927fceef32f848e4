-- `pass::close_all` meets its contract. The loop's invariant: the list that was at its end still is, and all rows are
-- copied. Each turn goes up to the parent.
-- Assumes nothing.
use native.Mathlib.Omega.{arith}
use mathlib.Core.Path.{ap, ◌∙◌}
use Rattle.std.proofs.lemmas.Bool.Decides.{nat_tests}
use Rattle.plan.specs.Table.{table}
use Rattle.pass_moves.specs.Written.{row}
use Rattle.pass.proofs.Ended.{last_on, copied_trans}
use Rattle.pass.proofs.AtOnce.{sized-is, end-here, can_close_it, closed_less, copied-closed}
use Rattle.pass.proofs.close_all.Goals as goal

pub close-c-requires : goal.close-c-requires
close-c-requires c =
    let l = last_on c.requires.last (c.loop-c.invariant.0 c.requires.value) in
    can_close_it l.underway (λ e z. grind (arith, nat_tests)) (end-here l.underway c.loop-c.invariant.1)

pub loop-c-smaller : goal.loop-c-smaller
loop-c-smaller c =
    let l = last_on c.requires.last (c.loop-c.invariant.0 c.requires.value) in
    let k = c.close-c.ensures in
    closed_less l.underway (λ e z. grind (arith, nat_tests)) (end-here l.underway c.loop-c.invariant.1)
    {u' = table c.args.ndist.now c.close-c.new.nsize c.requires.value} (sized-is _ _ _ k.nsize_after) k.result_value

pub loop-c-preserved : goal.loop-c-preserved
loop-c-preserved c =
    let l = last_on c.requires.last (c.loop-c.invariant.0 c.requires.value) in
    let e = end-here l.underway c.loop-c.invariant.1 in
    let k = c.close-c.ensures in (
      λ value.
          copied_trans (c.loop-c.invariant.0 value)
          (copied-closed (λ x z. grind (arith, nat_tests)) e
          (sized-is (table c.args.ndist.now c.loop-c.nsize value) _ _ k.nsize_after) k.result_value),
      ap row k.result_value ∙ c.loop-c.invariant.1,
    )
