-- `along::new_row::new_to_old` meets its contract.
use native.Mathlib.Omega.{arith}
use Rattle.std.proofs.lemmas.Bool.Decides.{nat_tests}
use Rattle.along.proofs.NewRows.{list_refused, row_refused, step, fits, last}
use Rattle.along.proofs.Reaching.{asks, few-records}
use Rattle.along.proofs.new_row.new_to_old.Goals as goal
use Rattle.along.proofs.new_row.new_to_old.Goals.{in-Vain, in-Renamed, in-Here+else-lt+else-lt-2}

pub returns-in_err-n : goal.returns-in_err-n
returns-in_err-n g c =
    list_refused _ _ _ _ _ _ c.from_residual.ensures.1 c.in_err-n.ensures

pub returns-in_err-test_row : goal.returns-in_err-test_row
returns-in_err-test_row g c =
    row_refused _ _ _ _ _ c.in_ok-n.ensures _ _ c.from_residual-in_err-test_row.ensures.1
    c.in_err-test_row.ensures

pub met-requires : goal.met-requires
met-requires g c = asks _ _ _ _ _ _ c.loop-k.invariant.reached c.record.ensures

pub returns-then-lt : goal.returns-then-lt
returns-then-lt g c =
    (step _ _ _ _ _ c.loop-k.invariant c.record.ensures c.in-Here.ensures).before (grind (arith, nat_tests))

pub returns-then-lt-2 : goal.returns-then-lt-2
returns-then-lt-2 g c =
    (step _ _ _ _ _ c.loop-k.invariant c.record.ensures c.in-Here.ensures).within (grind (arith, nat_tests))
    (grind (arith, nat_tests))

pub overflow_cast-result : goal.overflow_cast-result
overflow_cast-result g c = omega (arith, few-records _ _ _ _ _ _ c.loop-k.invariant.reached c.record.ensures)

pub loop-k-preserved : goal.loop-k-preserved
loop-k-preserved g c =
    let inv = c.loop-k.invariant in
    elim c.match-met.branch [
      | in-Vain w ↦ rw w.s-is (step _ _ _ _ _ inv c.record.ensures w.in-Vain.ensures)
      | in-Renamed w ↦ rw w.s-is (step _ _ _ _ _ inv c.record.ensures w.in-Renamed.ensures)
      | in-Here+else-lt+else-lt-2 w ↦
          rw w.s-is ((step _ _ _ _ _ inv c.record.ensures w.in-Here.ensures).behind (grind (arith, nat_tests)))
    ]

pub overflow_add-result-2 : goal.overflow_add-result-2
overflow_add-result-2 g c = omega (arith, (fits _ _ _ _ c.loop-k.invariant).1)

pub returns : goal.returns
returns g c = last _ _ _ _ _ c.loop-k.invariant (omega (arith, c.len-k-end.ensures))
