-- `refresh::apply` meets its contract: the test that fails decides, or the pass writes the new table.
use native.Mathlib.Omega.{arith}
use Rattle.refresh.proofs.Settling.{value_there, can_begin, begun, done_written}
use Rattle.refresh.proofs.apply.Goals as goal

pub bounds-t-0 : goal.bounds-t-0
bounds-t-0 g c = value_there _ _ _ _ c.in_ok-test_all.ensures

pub begin-c-requires : goal.begin-c-requires
begin-c-requires g c = can_begin _ _ _ _ c.in_ok-test_all.ensures

pub loop-j-init : goal.loop-j-init
loop-j-init g c =
    begun _ _ _ _ c.in_ok-test_all.ensures c.begin-c.ensures.value c.begin-c.ensures.v_after

pub returns : goal.returns
returns g c =
    done_written _ _ _ _ c.in_ok-test_all.ensures _ (omega arith) c.loop-j.invariant c.finish-rows.ensures
