-- The exam of a list, record by record: how it goes on and ends. The records that passed are themselves a list that
-- passes, so the way along them stands where the exam does, and behind the last it has counted the rows of the result.
-- Assumes nothing.
use Prim.Native.Nat.{ℕ, suc, ◌+◌, ◌-◌, ◌≤◌, ◌<◌}
use native.Mathlib.Omega.{arith}
use mathlib.Core.Path.{◌≡◌, refl, sym, ap, ◌∙◌, subst}
use mathlib.Core.Bool.{◌&&◌}
use mathlib.Core.List.{List, [], ◌∷◌, ◌++◌, append_assoc}
use lib.Dec.{T, leb}
use lib.ListN.{length, length-append}
use borrow.Author.Tests.{ne_eqb, le-leb}
use Rattle.plan.specs.declared.Record.{Record}
use Rattle.plan.specs.declared.Place.{Place}
use Rattle.plan.specs.declared.Stand.{Stand}
use Rattle.std.specs.Prelude.{⊤, Option, Some, None, Result, Ok, Err}
use Rattle.plan.specs.Verdict.{Passed, Failed}
use Rattle.plan.specs.Tree.{Forest, count}
use Rattle.plan.specs.Table.{Table, even, sound, most_rows}
use Rattle.plan.specs.Paint.{Painted, old, plan}
use Rattle.plan.specs.Records.{failing, runs}
use Rattle.plan.specs.Way.{has_run, brought, goes_on_at, start, place_of, meeting}
use Rattle.plan.specs.Call.{then, test, tested, result, most_records, judged}
use Rattle.plan.proofs.Kit.{true_of, T_and}
use Rattle.plan.proofs.Tests.{even_lengths}
use Rattle.plan.proofs.FourKinds.{run-within}
use Rattle.plan.proofs.Tested.{passes, tested-passes}
use Rattle.judge_record.specs.Trial.{Even, RunTested, Faces, RightTrial}
use Rattle.judge_record.specs.Way.{Meets, behind, stands}
use Rattle.judge_record.proofs.Places.{sizes_are}
use Rattle.judge_record.proofs.Ways.{Passes, Way, meets, way_at, way_inside, all_rows}
use Rattle.plan.specs.Verdict.{Judgement}
use Rattle.plan.specs.Verdict.{Refused}
use Rattle.plan.specs.declared.refusal.Fault.{Fault}
use Rattle.plan.specs.declared.refusal.Fault.TheVariants.{Kind, Location, Run as BadRun, Order, Alone}
use Rattle.plan.specs.Told.{fault}
use Rattle.plan.specs.Call.{judgement, published_of}
use Rattle.judge.proofs.Judging.{judged-first}

-- the exam of the list l goes on: tests 1 to 3 passed, and so did the records up to here; the rows go on where these
-- leave them, and what is left of the tests is what the records rs behind say
pub record Along (t i : Table) (l : List Record) (before : Option Record) (s : Stand) (passed : ℕ) (rs : List Record)
    : Type 0 where
  pub columns-even : T (even t && even i)
  pub table-sound : T (sound t)
  pub few : length l ≤ most_records
  pub done : List Record
  pub whole : l ≡ done ++ rs
  pub places : length done ≡ passed
  pub tests : (qs : List Record)
      → tested (plan old t) i 0 None (done ++ qs) ≡ tested (plan old t) i passed before qs
  pub stood : s ≡ stands t.size i.size start done
  pub run-tested : RunTested i before

-- ---- what the tests of a record tell
fault_some : (e : Fault) → 0 < fault e
fault_some Kind = omega arith
fault_some Location = omega arith
fault_some BadRun = omega arith
fault_some Order = omega arith
fault_some Alone = omega arith

module _ {A : Type 0} (f : Forest A) (i : Table) where
  tested-next : (j : ℕ) (b : Option Record) (r : Record) (rs : List Record) → failing f i b r ≡ 0
      → tested f i j b (r ∷ rs) ≡ tested f i (suc j) (Some r) rs
  unfolding tested
  tested-next j b r rs e = rw e

  tested-fails : (j k : ℕ) (b : Option Record) (r : Record) (rs : List Record) → failing f i b r ≡ k → 0 < k
      → tested f i j b (r ∷ rs) ≡ Failed k j 0
  unfolding tested
  tested-fails j k b r rs e h = rw (e, ne_eqb k 0 (λ w. omega arith))

  tested-none : (j : ℕ) (b : Option Record) → tested f i j b [] ≡ Passed
  unfolding tested
  tested-none j b = refl

-- ---- where some records leave the rows
stands-more : (size isize : List ℕ) (s : Stand) (ps : List Record) (r : Record)
    → stands size isize s (ps ++ (r ∷ []))
    ≡ behind (stands size isize s ps) (meeting (stands size isize s ps) r (goes_on_at size r) (brought isize r))
stands-more size isize s [] r = refl
stands-more size isize s (q ∷ ps) r =
    stands-more size isize (behind s (meeting s q (goes_on_at size q) (brought isize q))) ps r

-- ---- on the way
module _ {t i : Table} {l : List Record} {b : Option Record} {s : Stand} {k : ℕ} {rs : List Record}
    (h : Along t i l b s k rs) where
  abbrev tree : Forest Painted
  tree = plan old t

  abbrev rows : ℕ
  rows = count (result t i l)

  both_even : T (even t) × T (even i)
  both_even = T_and (even t) (even i) h.columns-even

  -- the tests of the list are those of the records that are left
  tests_left : tested tree i 0 None l ≡ tested tree i k b rs
  tests_left = ap (tested tree i 0 None) h.whole ∙ h.tests rs

  -- tests 1 to 3 passed
  judged-left : judged (even t && even i) t i l ≡ then (tested tree i k b rs) (test (leb rows most_rows) 9 0 rows)
  judged-left =
      judged-first t i l
      ∙ rw (
        true_of (even t && even i) h.columns-even,
        true_of (sound t) h.table-sound,
        le-leb (length l) most_records h.few,
        tests_left,
      )

  -- a record can be tested behind them
  pub can_try : Even i × RunTested i b
  can_try =
      let m = even_lengths i (true_of (even i) both_even.1) in
      (record { dists = m.0; values = m.1 }, h.run-tested)

  -- all records of the list are here or behind
  all_records : k + length rs ≡ length l
  all_records = omega (arith, h.places, ap length h.whole, length-append h.done rs)

  -- the records up to here, with some that pass behind them, are a list that passes
  passing : (qs : List Record) → length qs ≤ length rs → tested tree i k b qs ≡ Passed → Passes t i (h.done ++ qs)
  passing qs m e =
      record {
        table-sound = h.table-sound;
        insertions-even = both_even.1;
        few = omega (arith, all_records, h.few, h.places, length-append h.done qs);
        passed = tested-passes tree i 0 None (h.done ++ qs) (h.tests qs ∙ e);
      }

-- ---- the next record
module _ {t i : Table} {l : List Record} {b : Option Record} {s : Stand} {k : ℕ} {r : Record} {rs left : List Record}
    (along : Along t i l b s k left) (next : left ≡ r ∷ rs) where
  abbrev f : Forest Painted
  f = plan old t

  abbrev h : Along t i l b s k (r ∷ rs)
  h = subst (Along t i l b s k) next along

  module _ {p : Place} (faces : Faces t.dist t.size r p) where
    -- its place is that in this tree
    found : p ≡ place_of f r
    found = faces.faces t.value h.table-sound

    module _ {m : Result ⊤ Fault} (right : RightTrial p i b r m) where
      -- it fails a test: that is the judgement
      pub fails : {e : Fault} → m ≡ Err e → Refused (fault e) k 0 ≡ published_of (even t && even i) t i l
      fails {e} w =
          let z : fault e ≡ failing f i b r = rw w at (right f found) in
          rw (judged-left h, tested-fails f i k (fault e) b r rs (sym z) (fault_some e))

      module _ {x : ⊤} (w : m ≡ Ok x) where
        -- it fails none
        none-fails : failing f i b r ≡ 0
        none-fails = let z : 0 ≡ failing f i b r = rw w at (right f found) in sym z

        alone-passes : tested f i k b (r ∷ []) ≡ Passed
        alone-passes = tested-next f i k b r [] none-fails ∙ tested-none f i (suc k) (Some r)

        -- with it, too, the records up to here are a list that passes
        passing_here : Passes t i (h.done ++ (r ∷ []))
        passing_here = passing h (r ∷ []) (omega arith) alone-passes

        way_here : Way t i (h.done ++ (r ∷ [])) passing_here s (length h.done) (r ∷ [])
        way_here =
            subst (λ (x : Stand). Way t i (h.done ++ (r ∷ [])) passing_here x (length h.done) (r ∷ []))
            (sym h.stood)
            (way_at t i h.done (r ∷ []) passing_here)

        -- its run can be counted, and it can be met
        pub can_count : T (has_run r) → r.from < length i.size
        can_count u = (run-within i r (passes f i b r none-fails).run_sound u).0

        pub can_meet : {n : ℕ} → n ≡ brought i.size r → Meets s r n
        can_meet e =
            rw e (meets t i (h.done ++ (r ∷ [])) passing_here s (length h.done) r [] way_here)

        -- its run passed
        run-passed : RunTested i (Some r)
        run-passed =
            record {
              passed = λ q e.
                  let same : r ≡ q = cc in
                  subst (λ (x : Record). T (runs i x)) same (passes f i b r none-fails).run_sound;
            }

        -- where it leaves the rows
        end_found : p.end.0 ≡ goes_on_at t.size r
        unfolding place_of
        end_found =
            ap (λ (x : Place). x.end.0) found
            ∙ ap (λ (S : List ℕ). goes_on_at S r) (sizes_are t.dist t.size t.value h.table-sound)

        stood-behind : {n : ℕ} {s' : Stand} → n ≡ brought i.size r → s' ≡ behind s (meeting s r p.end.0 n)
            → s' ≡ stands t.size i.size start (h.done ++ (r ∷ []))
        stood-behind {n} e c =
            c ∙ rw (end_found, e, h.stood) (sym (stands-more t.size i.size start h.done r))

        -- the exam goes on behind it
        pub goes_on : {n : ℕ} {s' : Stand} → n ≡ brought i.size r → s' ≡ behind s (meeting s r p.end.0 n)
            → Along t i l (Some r) s' (suc k) rs
        goes_on {n} {s'} e c =
            record {
              columns-even = h.columns-even;
              table-sound = h.table-sound;
              few = h.few;
              done = h.done ++ (r ∷ []);
              whole = h.whole ∙ sym (append_assoc h.done (r ∷ []) rs);
              places = omega (arith, h.places, length-append h.done (r ∷ []));
              tests = λ qs. rw (append_assoc h.done (r ∷ []) qs)
                  (h.tests (r ∷ qs) ∙ tested-next f i k b r qs none-fails);
              stood = stood-behind e c;
              run-tested = run-passed;
            }

-- ---- behind the last record
empty : (rs : List Record) → length rs ≡ 0 → rs ≡ []
empty [] e = refl
empty (r ∷ rs) e = absurd (omega arith)

-- where so many records passed as there are, none is left
pub none_left : {t i : Table} {l : List Record} {b : Option Record} {s : Stand} {k : ℕ} {rs : List Record}
    → Along t i l b s k rs → length l ≤ k → Along t i l b s k []
none_left {t} {i} {l} {b} {s} {k} {rs} h m =
    let z : rs ≡ [] = empty rs (omega (arith, all_records h)) in rw z at h

module _ {t i : Table} {l : List Record} {b : Option Record} {s : Stand} {k : ℕ} (h : Along t i l b s k []) where
  all_done : l ≡ h.done ++ []
  all_done = h.whole

  passing_all : Passes t i (h.done ++ [])
  passing_all = passing h [] (omega arith) (tested-none (plan old t) i k b)

  way_all : Way t i (h.done ++ []) passing_all s (length h.done) []
  way_all =
      subst (λ (x : Stand). Way t i (h.done ++ []) passing_all x (length h.done) []) (sym h.stood)
      (way_at t i h.done [] passing_all)

  -- the rows up to here, and the old rows that are left, are the rows of the result
  pub balance : s.out.0 + (length t.size - s.row.0) ≡ count (result t i l)
  balance =
      all_rows t i (h.done ++ []) passing_all s (length h.done) way_all
      ∙ ap (λ (x : List Record). count (result t i x)) (sym all_done)

  -- and the rows go on inside the table
  pub row_inside : s.row.0 ≤ length t.size
  row_inside = way_inside t i (h.done ++ []) passing_all s (length h.done) [] way_all

  -- test 9 of that many rows is the judgement
  pub published-rows : {a : Judgement} → let n = s.out.0 + (length t.size - s.row.0) in
      a ≡ judgement (test (leb n most_rows) 9 0 n) n → a ≡ published_of (even t && even i) t i l
  published-rows w =
      rw (judged-left h, tested-none (plan old t) i k b, ← balance) w
