-- `along::every_old::map_old` meets its contract: before each record the column is under way, with the records from
-- there on left.
use native.Mathlib.Omega.{arith}
use Rattle.along.proofs.OldColumns.{list_refused, room_refused, step, went_on, last}
use Rattle.along.proofs.Laying.{part-inside}
use Rattle.along.proofs.Reaching.{asks}
use Rattle.along.proofs.every_old.map_old.Goals as goal
use Rattle.along.proofs.every_old.map_old.Goals.{in-Vain, in-Renamed, in-Here}

pub returns-in_err-judged : goal.returns-in_err-judged
returns-in_err-judged g c =
    list_refused _ _ _ _ _ _ c.from_residual.ensures.1 c.in_err-judged.ensures

pub returns-in_err-test_room : goal.returns-in_err-test_room
returns-in_err-test_room g c =
    room_refused _ _ _ _ _ c.in_ok-judged.ensures _ _ c.from_residual-in_err-test_room.ensures.1
    c.in_err-test_room.ensures

pub met-requires : goal.met-requires
met-requires g c = asks _ _ _ _ _ _ c.loop-k.invariant.reached c.record.ensures

pub slice_bounds-count_up-count : goal.slice_bounds-count_up-count
slice_bounds-count_up-count g c = (step _ _ _ _ _ c.loop-k.invariant c.record.ensures c.in-Here.ensures).ahead

pub slice_bounds-count_up-start : goal.slice_bounds-count_up-start
slice_bounds-count_up-start g c = (step _ _ _ _ _ c.loop-k.invariant c.record.ensures c.in-Here.ensures).ahead

pub slice_bounds-count_up-end : goal.slice_bounds-count_up-end
slice_bounds-count_up-end g c =
    let s = step _ _ _ _ _ c.loop-k.invariant c.record.ensures c.in-Here.ensures in
    omega (arith, s.on, s.inside)

pub slice_bounds-fill-end : goal.slice_bounds-fill-end
slice_bounds-fill-end g c =
    let s = step _ _ _ _ _ c.loop-k.invariant c.record.ensures c.in-Here.ensures in
    part-inside _ _ _ s.ahead (omega (arith, s.on, s.inside)) _ c.count_up.auto.part s.inside

pub loop-k-preserved : goal.loop-k-preserved
loop-k-preserved g c =
    let inv = c.loop-k.invariant in
    elim c.match-met.branch [
      | in-Vain w ↦ rw (w.s-is, w.number-is) (step _ _ _ _ _ inv c.record.ensures w.in-Vain.ensures)
      | in-Renamed w ↦ rw (w.s-is, w.number-is) (step _ _ _ _ _ inv c.record.ensures w.in-Renamed.ensures)
      | in-Here w ↦
          rw (w.s-is, w.number-is)
          (went_on _ _ _ _ (step _ _ _ _ _ inv c.record.ensures w.in-Here.ensures) w.count_up.ensures
          (w.fill.ensures.after (λ y h. h)))
    ]

pub slice_bounds-count_up-count-2 : goal.slice_bounds-count_up-count-2
slice_bounds-count_up-count-2 g c = (last _ _ _ _ _ c.loop-k.invariant (omega (arith, c.len-k-end.ensures))).ahead

pub slice_bounds-count_up-start-2 : goal.slice_bounds-count_up-start-2
slice_bounds-count_up-start-2 g c = (last _ _ _ _ _ c.loop-k.invariant (omega (arith, c.len-k-end.ensures))).ahead

pub count_up-requires-2 : goal.count_up-requires-2
count_up-requires-2 g c = (last _ _ _ _ _ c.loop-k.invariant (omega (arith, c.len-k-end.ensures))).few

pub returns : goal.returns
returns g c =
    (last _ _ _ _ _ c.loop-k.invariant (omega (arith, c.len-k-end.ensures))).done c.count_up-2.ensures
