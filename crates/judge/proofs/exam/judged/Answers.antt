-- `judge::exam::judged` meets its contract: the record fails a test, or passes and leaves the rows where it does.
use native.Mathlib.Omega.{arith}
use native.Mathlib.Numerals.{add-one}
use Rattle.std.proofs.lemmas.Result.{err_from_is_err_and}
use Rattle.judge.proofs.Judging.{first-refused}
use Rattle.judge.proofs.Onward.{can_try, fails, can_count, can_meet, goes_on, none_left, row_inside, published-rows}
use Rattle.judge.proofs.exam.judged.Goals as goal

pub returns-in_err-first_tests : goal.returns-in_err-first_tests
returns-in_err-first_tests g c =
    let p = err_from_is_err_and c.from_residual.result c.from_residual.ensures.1 in
    rw (p.1, p.2) (first-refused _ _ _ _ c.in_err-first_tests.ensures c.len.ensures)

pub tried-requires : goal.tried-requires
tried-requires g c = can_try c.loop-j.invariant

pub returns-in-Err : goal.returns-in-Err
returns-in-Err g c =
    fails c.loop-j.invariant c.record-r.ensures c.place_of-place.ensures c.tried.ensures c.in-Err.is

pub run_rows-requires : goal.run_rows-requires
run_rows-requires g c =
    can_count c.loop-j.invariant c.record-r.ensures c.place_of-place.ensures c.tried.ensures c.in_default.is

pub onward-stand-requires : goal.onward-stand-requires
onward-stand-requires g c =
    can_meet c.loop-j.invariant c.record-r.ensures c.place_of-place.ensures c.tried.ensures c.in_default.is
    c.run_rows.ensures

pub loop-j-preserved : goal.loop-j-preserved
loop-j-preserved g c =
    rw (add-one c.loop-j.j)
    (goes_on c.loop-j.invariant c.record-r.ensures c.place_of-place.ensures c.tried.ensures c.in_default.is
    c.run_rows.ensures c.onward-stand.ensures)

pub overflow_sub-t : goal.overflow_sub-t
overflow_sub-t g c = omega (arith, row_inside (none_left c.loop-j.invariant (omega arith)))

pub returns : goal.returns
returns g c =
    published-rows (none_left c.loop-j.invariant (omega arith))
    c.test_rows.ensures
