-- `along::every_new::map_new` meets its contract: before each record the columns are under way, with the records from
-- there on left.
use native.Mathlib.Omega.{arith}
use Rattle.along.proofs.NewColumns.{odd, list_refused, room_refused, step, went_on, last}
use Rattle.along.proofs.Laying.{part-inside}
use Rattle.along.proofs.Reaching.{asks, few-records}
use Rattle.along.proofs.every_new.map_new.Goals as goal
use Rattle.along.proofs.every_new.map_new.Goals.{in-Vain, in-Renamed, in-Here}

pub returns-then-rows-records : goal.returns-then-rows-records
returns-then-rows-records g c = odd _ _ _ _ (λ e. omega arith)

pub returns-in_err-n : goal.returns-in_err-n
returns-in_err-n g c =
    list_refused _ _ _ _ (omega arith) _ _ c.from_residual.ensures.1 c.in_err-n.ensures

pub returns-in_err-test_room : goal.returns-in_err-test_room
returns-in_err-test_room g c =
    room_refused _ _ _ _ (omega arith) _ c.in_ok-n.ensures _ _ c.from_residual-in_err-test_room.ensures.1
    c.in_err-test_room.ensures

pub met-requires : goal.met-requires
met-requires g c = asks _ _ _ _ _ _ c.loop-k.invariant.reached c.record.ensures

pub slice_bounds-fill-end : goal.slice_bounds-fill-end
slice_bounds-fill-end g c =
    let s = step _ _ _ _ _ c.loop-k.invariant c.record.ensures c.in-Here.ensures in
    omega (arith, s.run, s.record-inside)

pub slice_bounds-fill-end-in-Here : goal.slice_bounds-fill-end-in-Here
slice_bounds-fill-end-in-Here g c =
    let s = step _ _ _ _ _ c.loop-k.invariant c.record.ensures c.in-Here.ensures in
    part-inside _ _ _ s.ahead (omega (arith, s.run, s.record-inside)) _ c.fill.ensures.len s.record-inside

pub overflow_cast-k : goal.overflow_cast-k
overflow_cast-k g c = omega (arith, few-records _ _ _ _ _ _ c.loop-k.invariant.reached c.record.ensures)

pub slice_bounds-count_up-end : goal.slice_bounds-count_up-end
slice_bounds-count_up-end g c =
    let s = step _ _ _ _ _ c.loop-k.invariant c.record.ensures c.in-Here.ensures in
    omega (arith, s.run, s.row-inside)

pub slice_bounds-count_up-end-in-Here : goal.slice_bounds-count_up-end-in-Here
slice_bounds-count_up-end-in-Here g c =
    let s = step _ _ _ _ _ c.loop-k.invariant c.record.ensures c.in-Here.ensures in
    part-inside _ _ _ s.ahead (omega (arith, s.run, s.row-inside)) _ c.count_up.auto.part s.row-inside

pub loop-k-preserved : goal.loop-k-preserved
loop-k-preserved g c =
    let inv = c.loop-k.invariant in
    elim c.match-met.branch [
      | in-Vain w ↦ rw (w.s-is, w.records-is, w.rows-is) (step _ _ _ _ _ inv c.record.ensures w.in-Vain.ensures)
      | in-Renamed w ↦ rw (w.s-is, w.records-is, w.rows-is) (step _ _ _ _ _ inv c.record.ensures w.in-Renamed.ensures)
      | in-Here w ↦
          rw (w.s-is, w.records-is, w.rows-is)
          (went_on _ _ _ _ (step _ _ _ _ _ inv c.record.ensures w.in-Here.ensures)
          (w.fill.ensures.after (λ y h. h)) (w.fill-in-Here.ensures.after (λ y h. h)) w.count_up.ensures
          w.count_up-in-Here.ensures)
    ]

pub overflow_sub-end : goal.overflow_sub-end
overflow_sub-end g c = (last _ _ _ _ c.loop-k.invariant (omega (arith, c.len-k-end.ensures))).inside

pub slice_bounds-fill-end-2 : goal.slice_bounds-fill-end-2
slice_bounds-fill-end-2 g c = (last _ _ _ _ c.loop-k.invariant (omega (arith, c.len-k-end.ensures))).record-inside

pub slice_bounds-count_up-end-2 : goal.slice_bounds-count_up-end-2
slice_bounds-count_up-end-2 g c = (last _ _ _ _ c.loop-k.invariant (omega (arith, c.len-k-end.ensures))).row-inside

pub count_up-requires-2 : goal.count_up-requires-2
count_up-requires-2 g c = (last _ _ _ _ c.loop-k.invariant (omega (arith, c.len-k-end.ensures))).few

pub returns : goal.returns
returns g c =
    (last _ _ _ _ c.loop-k.invariant (omega (arith, c.len-k-end.ensures))).done
    (c.fill-2.ensures.after (λ y h. h)) c.count_up-2.ensures
