-- `pass::one` meets its contract: the record is for the root, or vain, or a rename, or taken at its place.
-- Assumes nothing.
use native.Mathlib.Omega.{arith}
use Rattle.pass.proofs.Vain.{Told, tells}
use Rattle.pass.proofs.Ones.{taken-root, ends_low, run-there, meets, taken-vain, can_revalue, taken-rename, parent-there, on_the_way, can_bring_it, taken_made}
use Rattle.plan.specs.declared.Meeting.TheVariants.{Renamed, Here}
use Rattle.pass.proofs.one.Goals as goal
use Rattle.pass.proofs.one.Goals.{In-Renamed, In-Here}

-- what the answer of `meet` says in its two longer arms
told_renamed : (c : In-Renamed)
    → Told c.args.c.stand c.args.r c.row_behind-behind.result.0 c.run_rows-run.result (Renamed c.in-Renamed.next)
told_renamed c = tells c.args.c.stand c.args.r c.row_behind-behind.result.0 c.run_rows-run.result c.in-Renamed.ensures

told_here : (c : In-Here)
    → Told c.args.c.stand c.args.r c.row_behind-behind.result.0 c.run_rows-run.result
    (Here c.in-Here.p c.in-Here.rows c.in-Here.next)
told_here c = tells c.args.c.stand c.args.r c.row_behind-behind.result.0 c.run_rows-run.result c.in-Here.ensures

pub returns-then-r-eq0 : goal.returns-then-r-eq0
returns-then-r-eq0 c = record { onward = λ l w rs h. taken-root h c.if-r-eq0.true }

pub row_behind-behind-requires : goal.row_behind-behind-requires
row_behind-behind-requires c =
    ends_low c.requires.underway c.if-r-eq0.false

pub run_rows-run-requires : goal.run_rows-run-requires
run_rows-run-requires c =
    run-there c.requires.underway c.if-r-eq0.false

pub meet-requires : goal.meet-requires
meet-requires c =
    meets c.requires.underway c.if-r-eq0.false c.run_rows-run.ensures

pub revalue-requires : goal.revalue-requires
revalue-requires c =
    let m = told_renamed (goal.at.revalue-requires c).In-Renamed in
    can_revalue c.requires.underway c.if-r-eq0.false m.0 m.1

pub overflow_add-result : goal.overflow_add-result
overflow_add-result c =
    let m = told_renamed (goal.at.overflow_add-result c).In-Renamed in
    omega (arith, (can_revalue c.requires.underway c.if-r-eq0.false m.0 m.1).few)

pub parent_of-q-requires : goal.parent_of-q-requires
parent_of-q-requires c =
    parent-there c.requires.underway c.if-r-eq0.false

pub upto-k-requires : goal.upto-k-requires
upto-k-requires c =
    let m = told_here (goal.at.upto-k-requires c).In-Here in
    on_the_way c.requires.underway c.if-r-eq0.false m.0 m.2 c.parent_of-q.ensures

pub bring-requires : goal.bring-requires
bring-requires c =
    let m = told_here (goal.at.bring-requires c).In-Here in
    let k = c.upto-k.ensures in
    can_bring_it c.requires.underway c.if-r-eq0.false m.0 m.2 c.parent_of-q.ensures k.0 k.1 k.2
    m.1 c.run_rows-run.ensures m.3

pub returns-in-Vain : goal.returns-in-Vain
returns-in-Vain c =
    let m = tells c.args.c.stand c.args.r c.row_behind-behind.result.0 c.run_rows-run.result c.in-Vain.ensures in
    record { onward = λ l w rs h. taken-vain h c.if-r-eq0.false m }

pub returns-in-Renamed : goal.returns-in-Renamed
returns-in-Renamed c =
    let m = told_renamed (goal.at.returns-in-Renamed c).In-Renamed in
    record {
      onward =
          λ l w rs h.
          taken-rename h c.if-r-eq0.false m.0 m.1 c.revalue.ensures m.2;
    }

pub returns-in-Here : goal.returns-in-Here
returns-in-Here c =
    let m = told_here (goal.at.returns-in-Here c).In-Here in
    let k = c.upto-k.ensures in
    record {
      onward =
          λ l w rs h.
          taken_made h c.if-r-eq0.false m.0 m.2 c.parent_of-q.ensures k.0 k.1 k.2 m.1
          c.run_rows-run.ensures m.3 c.row_behind-behind.ensures m.4 c.bring.ensures;
    }
