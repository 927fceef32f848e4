-- `along::old_row::old_to_new` meets its contract.
use native.Mathlib.Omega.{arith}
use Rattle.std.proofs.lemmas.Bool.Decides.{nat_tests}
use Rattle.along.proofs.OldRows.{list_refused, row_refused, step, fits, last}
use Rattle.along.proofs.Reaching.{asks}
use Rattle.along.proofs.old_row.old_to_new.Goals as goal
use Rattle.along.proofs.old_row.old_to_new.Goals.{in-Vain, in-Renamed, in-Here+else-lt+else-lt-2}

pub returns-in_err-judged : goal.returns-in_err-judged
returns-in_err-judged g c =
    list_refused _ _ _ _ _ _ c.from_residual.ensures.1 c.in_err-judged.ensures

pub returns-in_err-test_row : goal.returns-in_err-test_row
returns-in_err-test_row g c =
    row_refused _ _ _ _ _ c.in_ok-judged.ensures _ _ c.from_residual-in_err-test_row.ensures.1
    c.in_err-test_row.ensures

pub met-requires : goal.met-requires
met-requires g c = asks _ _ _ _ _ _ c.loop-k.invariant.reached c.record.ensures

pub returns-then-lt : goal.returns-then-lt
returns-then-lt g c =
    (step _ _ _ _ _ c.loop-k.invariant c.record.ensures c.in-Here.ensures).before (grind (arith, nat_tests))

pub returns-then-lt-2 : goal.returns-then-lt-2
returns-then-lt-2 g c =
    (step _ _ _ _ _ c.loop-k.invariant c.record.ensures c.in-Here.ensures).taken (grind (arith, nat_tests))
    (grind (arith, nat_tests))

pub loop-k-preserved : goal.loop-k-preserved
loop-k-preserved g c =
    let inv = c.loop-k.invariant in
    elim c.match-met.branch [
      | in-Vain w ↦ rw w.s-is (step _ _ _ _ _ inv c.record.ensures w.in-Vain.ensures)
      | in-Renamed w ↦ rw w.s-is (step _ _ _ _ _ inv c.record.ensures w.in-Renamed.ensures)
      | in-Here+else-lt+else-lt-2 w ↦
          rw w.s-is ((step _ _ _ _ _ inv c.record.ensures w.in-Here.ensures).behind (grind (arith, nat_tests)))
    ]

pub overflow_add-result-2 : goal.overflow_add-result-2
overflow_add-result-2 g c = omega (arith, (fits _ _ _ _ c.loop-k.invariant).1)

pub returns : goal.returns
returns g c = last _ _ _ _ _ c.loop-k.invariant (omega (arith, c.len-k-end.ensures))
