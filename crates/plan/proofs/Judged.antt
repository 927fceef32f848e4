-- What it takes to pass tests 1 to 9, and tests 1 to 10.
-- Assumes nothing.
use Prim.Native.Nat.{ℕ, ◌≤◌}
use mathlib.Core.Path.{◌≡◌}
use mathlib.Core.Bool.{Bool}
use mathlib.Core.List.{List}
use lib.Dec.{T, leb, leb→le}
use lib.ListN.{length}
use Rattle.plan.specs.declared.Record.{Record}
use Rattle.std.specs.Prelude.{None}
use Rattle.plan.specs.Verdict.{Passed}
use Rattle.plan.specs.Tree.{count}
use Rattle.plan.specs.Table.{Table, sound, most_rows}
use Rattle.plan.specs.Paint.{old, plan}
use Rattle.plan.specs.Call.{test, tested, result, most_records, judged}
use Rattle.plan.proofs.Kit.{T_of}
use Rattle.plan.proofs.Verdicts.{test_true, then-passed}
use Rattle.plan.proofs.Tested.{PassAll, tested-passes}

test-passed : (b : Bool) (n p c : ℕ) → test b n p c ≡ Passed → T b
test-passed b n p c e = T_of b (test_true b n p c e)

-- the list passes tests 1 to 9
pub record Accepted (evens : Bool) (t i : Table) (l : List Record) : Type 0 where
  pub columns-even : T evens
  pub table-sound : T (sound t)
  pub few-records : length l ≤ most_records
  pub all_pass : PassAll (plan old t) i None l
  pub few-rows : count (result t i l) ≤ most_rows

pub accepted-judged : (evens : Bool) (t i : Table) (l : List Record)
    → judged evens t i l ≡ Passed → Accepted evens t i l
unfolding judged
accepted-judged evens t i l e =
    let n : ℕ = count (result t i l) in
    let a = then-passed (test evens 1 0 0) _ e in
    let b = then-passed (test (sound t) 2 0 0) _ a.1 in
    let c = then-passed (test (leb (length l) most_records) 3 0 0) _ b.1 in
    let d = then-passed (tested (plan old t) i 0 None l) (test (leb n most_rows) 9 0 n) c.1 in
    record {
      columns-even = test-passed evens 1 0 0 a.0;
      table-sound = test-passed (sound t) 2 0 0 b.0;
      few-records = leb→le (length l) most_records (test-passed (leb (length l) most_records) 3 0 0 c.0);
      all_pass = tested-passes (plan old t) i 0 None l d.0;
      few-rows = leb→le n most_rows (test-passed (leb n most_rows) 9 0 n d.1);
    }
