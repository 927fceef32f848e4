-- The bulk call, case by case: which test decides, how the pass begins, and what is written.
-- Assumes nothing.
use Prim.Native.Nat.{ℕ, ◌≤◌, ◌<◌}
use native.Mathlib.Omega.{arith}
use mathlib.Core.Path.{◌≡◌, refl, sym, ◌∙◌}
use mathlib.Core.Bool.{Bool, true, false, ◌&&◌}
use mathlib.Core.List.{List}
use lib.Dec.{leb}
use lib.ListN.{length, get_or, drop}
use borrow.Author.Tests.{leb-true}
use Rattle.std.specs.Prelude.{⊤, Result, Err, IsErrAnd}
use Rattle.std.proofs.lemmas.Result.{err_from_is_err_and}
use Rattle.std.proofs.lemmas.List.{drop_all}
use Rattle.plan.specs.declared.Record.{Record}
use Rattle.plan.specs.Verdict.{Verdict}
use Rattle.plan.specs.Verdict.{Passed, Failed}
use Rattle.plan.specs.Verdict.{Needs}
use Rattle.plan.specs.declared.refusal.Refusal.{Refusal}
use Rattle.plan.specs.declared.refusal.Refusal.TheVariants.{Uneven}
use Rattle.plan.specs.Answer.{accepted}
use Rattle.plan.specs.Tree.{count}
use Rattle.plan.specs.Table.{Table, even}
use Rattle.plan.specs.Way.{stand}
use Rattle.plan.specs.Told.{failed, verdict_told, judgement_told, refused_answer}
use Rattle.plan.specs.Call.{then, test, result, judged, judgement, bulk, published_of, Done}
use Rattle.plan.specs.Lent.{Lent, level, list}
use Rattle.plan.proofs.Kit.{T_and, and_false}
use Rattle.plan.proofs.Verdicts.{test_true, test_false, then-passed}
use Rattle.plan.proofs.Judged.{accepted-judged}
use Rattle.judge.proofs.Told.{needs_told, failed-fails, failed-then, failed-judged}
use Rattle.pass_moves.specs.Rows.{Room}
use Rattle.pass_moves.specs.declared.Cursor.{Cursor}
use Rattle.pass_moves.specs.Written.{cursor, rowed}
use Rattle.pass_moves.proofs.Rows.{tall_tree}
use Rattle.pass.specs.Asked.{Given}
use Rattle.pass.specs.Underway.{Underway, Finished}
use Rattle.pass.proofs.Given.{tree_of, root-room}
use Rattle.pass.proofs.Begun.{underway-begun}

-- nothing is written, and a refusal is handed on
pub done_refused : (evens : Bool) (t i : Table) (l : List Record) (u : Table) (e : Refusal)
    → failed e ≡ bulk evens t i l u → Done evens t i l u (refused_answer e) u
done_refused evens t i l u e h =
    let f = (failed-fails e).is in
    record { answered = rw (← h, f); columns = rw (← h, f) }

-- the list's own columns differ in length
pub done_odd : (t i : Table) (c : Lent) (u : Table) → level c ≡ false
    → Done (level c) t i (list c) u (refused_answer Uneven) u
unfolding bulk judged
done_odd t i c u e = done_refused (level c) t i (list c) u Uneven (rw e)

and_last : (x y z : Bool) → z ≡ true → (x && (y && z)) ≡ (x && y)
and_last true true z e = e
and_last true false z e = refl
and_last false y z e = refl

module _ (t i : Table) (l : List Record) (u : Table) where
  abbrev f : ℕ
  f = count (result t i l)

  abbrev verdict : Verdict
  verdict = bulk true t i l u

  -- ---- test 1 of the new columns, tests 1 to 9, and test 10
  pub not_even : Failed 1 0 0 ≡ test (even u) 1 0 0 → failed Uneven ≡ verdict
  unfolding bulk judged
  not_even h = rw (and_false (even t) (and_false (even i) (test_false (even u) 1 0 0 1 0 0 (sym h))))

  pub uneven_refused : (a : Result ⊤ Refusal) → IsErrAnd a (λ e. e ≡ Uneven) → Failed 1 0 0 ≡ test (even u) 1 0 0
      → verdict_told a ≡ verdict
  uneven_refused a k h = let p = err_from_is_err_and a k in rw (p.1, p.2) (not_even h)

  module _ (e : Passed ≡ test (even u) 1 0 0) where
    then_ten : verdict ≡ then (judged (even t && even i) t i l) (test (leb f (length u.size)) 10 0 f)
    unfolding bulk
    then_ten = rw (and_last (even t) (even i) (even u) (test_true (even u) 1 0 0 (sym e)))

    pub not_judged : (r : Refusal) → judgement_told (Err r) ≡ published_of (even t && even i) t i l → failed r ≡ verdict
    not_judged r h =
        sym (then_ten ∙ rw (failed-judged r (judged (even t && even i) t i l) f h) (failed-then r _))

    pub room_decides : {n : ℕ} {v : Verdict} → Needs n ≡ published_of (even t && even i) t i l
        → v ≡ test (leb n (length u.size)) 10 0 n → v ≡ verdict
    room_decides {n} g h =
        let passed = (needs_told (judged (even t && even i) t i l) f n).0 (sym g) in
        h ∙ sym (then_ten ∙ rw (passed.0, ← passed.1))

  pub judgement_refused : (a : Result ⊤ Refusal) (r : Refusal) → IsErrAnd a (λ e. e ≡ r)
      → Passed ≡ test (even u) 1 0 0 → judgement (failed r) 0 ≡ published_of (even t && even i) t i l
      → verdict_told a ≡ verdict
  judgement_refused a r k e h = let p = err_from_is_err_and a k in rw (p.1, p.2) (not_judged e r h)

  pub room_told : (n : ℕ) (a : Result ⊤ Refusal) → Passed ≡ test (even u) 1 0 0
      → Needs n ≡ published_of (even t && even i) t i l
      → verdict_told a ≡ test (leb n (length u.size)) 10 0 n → verdict_told a ≡ verdict
  room_told n a e g h = room_decides e g h

  -- ---- all have passed
  module _ (h : Passed ≡ verdict) where
    pub given : Given t i l u
    unfolding bulk
    given =
        let evens : Bool = even t && (even i && even u) in
        let passed = then-passed (judged evens t i l) (test (leb f (length u.size)) 10 0 f) (sym h) in
        let told = accepted-judged evens t i l passed.0 in
        record {
          table-sound = told.table-sound;
          passes = told.all_pass;
          few = told.few-rows;
          even-new = (T_and (even i) (even u) (T_and (even t) (even i && even u) told.columns-even).1).1;
          room = leb-true f (length u.size) (test_true _ 10 0 f passed.1);
        }

    pub value_there : 0 < length t.value
    value_there = omega (arith, (tall_tree (tree_of given)).value)

    pub can_begin : Room 1 u
    can_begin = root-room given

    pub begun : {v : Table} {c : Cursor} → c ≡ cursor (stand 1 1 0 0) 0 0 0 → v ≡ rowed u 0 1 0 (get_or t.value 0 0)
        → Underway t i l u v c l
    begun at written = rw (at, written) (underway-begun given)

    -- behind the last record
    pub done_written : {v w : Table} {c : Cursor} {m : ℕ} (n : ℕ) → length l ≤ n → Underway t i l u v c (drop n l)
        → Finished t v c w m → Done true t i l u (accepted m) w
    done_written n k g d =
        let q = d.answered i l u (rw (drop_all n l k) at g) in
        record { answered = rw (← h, q.rows); columns = rw (← h) q.columns }
