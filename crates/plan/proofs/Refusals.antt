-- A refused call is refused for a published reason, the first in the published order: the verdict is taken apart test
-- by test.
-- Assumes nothing.
use Prim.Native.Nat.{ℕ, zero, suc, ◌+◌, ◌≤◌, ◌<◌}
use native.Mathlib.Omega.{arith}
use mathlib.Core.Path.{◌≡◌, refl, sym, ap, subst}
use mathlib.Core.Bool.{Bool, true, false, cond, not, ◌&&◌}
use mathlib.Core.List.{List, [], ◌∷◌, ◌++◌}
use lib.Dec.{T, leb, ltb, eqb}
use lib.ListN.{length}
use borrow.Author.Tests.{leb-true, leb-false, ltb-false}
use Rattle.plan.specs.declared.Record.{Record}
use Rattle.std.specs.Prelude.{Option, Some, None}
use Rattle.plan.specs.Verdict.{Verdict}
use Rattle.plan.specs.Verdict.{Passed, Failed}
use Rattle.plan.specs.Mapping.{NotBecame}
use Rattle.plan.specs.Mapping.{NotWas}
use Rattle.plan.specs.Tree.{Forest, count}
use Rattle.plan.specs.Table.{Table, even, sound, most_rows}
use Rattle.plan.specs.Mapping.{Fate, row, gone, queried, mapped, became, was}
use Rattle.plan.specs.Paint.{Origin, old, new, plan}
use Rattle.plan.specs.Records.{known, located, runs, follows, alone, failing}
use Rattle.plan.specs.Call.{then, test, tested, result, most_records, judged, bulk}
use Rattle.plan.specs.Reasons.{last, Fails, four, five, six, seven, eight, Judged, uneven, unsound, too_many, bad-record, too_large, Reason, by_list, by_last, NoRoom, no_room, NoRow, no_row, all_even}
use Rattle.plan.proofs.Kit.{T_of}
use Rattle.plan.proofs.Verdicts.{test_true, test_false}

-- ---- one test, and tests one after another
-- a test that failed has just its own numbers
test-numbers : (b : Bool) (n p c n' p' c' : ℕ) → test b n p c ≡ Failed n' p' c' → (n ≡ n') × (p ≡ p') × (c ≡ c')
test-numbers true n p c n' p' c' e = let z : ◌≡◌ {A = ℕ} 0 1 = cc in absurd (omega arith)
test-numbers false n p c n' p' c' e = (cc, cc, cc)

like : (P : (n p c : ℕ) → Type 0) {n p c n' p' c' : ℕ} → P n p c → (n ≡ n') × (p ≡ p') × (c ≡ c') → P n' p' c'
like P {n} {p} {c} {n'} {p'} {c'} r w =
    subst (λ (x : ℕ). P n' p' x) w.2 (subst (λ (x : ℕ). P n' x c) w.1 (subst (λ (x : ℕ). P x p c) w.0 r))

-- the first fails, or it passes and the others do
pub data Which (v w x : Verdict) : Type 0 where
  first : v ≡ x → Which v w x
  others : v ≡ Passed → w ≡ x → Which v w x

which : (v w : Verdict) (n p c : ℕ) → then v w ≡ Failed n p c → Which v w (Failed n p c)
which Passed w n p c e = others refl e
which (Failed n' p' c') w n p c e = first e

-- ---- one record
module _ {A : Type 0} (t : Forest A) (i : Table) (b : Option Record) (r : Record) where
  fails_by : (k l u f a : Bool) → known r ≡ k → located t r ≡ l → runs i r ≡ u → follows b r ≡ f → alone b r ≡ a
      → (n : ℕ) → cond (not k) 4 (cond (not l) 5 (cond (not u) 6 (cond (not f) 7 (cond (not a) 8 0)))) ≡ n → 0 < n
      → Fails t i b r n
  fails_by false l u f a hk hl hu hf ha n e h = subst (Fails t i b r) e (four hk)
  fails_by true false u f a hk hl hu hf ha n e h = subst (Fails t i b r) e (five (T_of (known r) hk) hl)
  fails_by true true false f a hk hl hu hf ha n e h =
      subst (Fails t i b r) e (six (T_of (known r) hk) (T_of (located t r) hl) hu)
  fails_by true true true false a hk hl hu hf ha n e h =
      subst (Fails t i b r) e (seven (T_of (known r) hk) (T_of (located t r) hl) (T_of (runs i r) hu) hf)
  fails_by true true true true false hk hl hu hf ha n e h =
      subst (Fails t i b r) e
      (eight (T_of (known r) hk) (T_of (located t r) hl) (T_of (runs i r) hu) (T_of (follows b r) hf) ha)
  fails_by true true true true true hk hl hu hf ha n e h = absurd (omega arith)

  pub fails-first : (n : ℕ) → failing t i b r ≡ n → 0 < n → Fails t i b r n
  unfolding failing
  fails-first n e h =
      fails_by (known r) (located t r) (runs i r) (follows b r) (alone b r) refl refl refl refl refl n e h

-- ---- the records of a list, from the k-th on
record Found (t i : Table) (k : ℕ) (b : Option Record) (l : List Record) (n place count : ℕ) : Type 0 where
  earlier : List Record
  bad : Record
  later : List Record
  whole : l ≡ earlier ++ (bad ∷ later)
  at_place : k + length earlier ≡ place
  earlier_pass : tested (plan old t) i k b earlier ≡ Passed
  fails : Fails (plan old t) i (last b earlier) bad n
  no_count : count ≡ 0

module _ (t i : Table) where
  found_here : (k : ℕ) (b : Option Record) (r : Record) (rs : List Record) (n p c : ℕ)
      → test (eqb (failing (plan old t) i b r) 0) (failing (plan old t) i b r) k 0 ≡ Failed n p c
      → Found t i k b (r ∷ rs) n p c
  unfolding tested
  found_here k b r rs n p c e =
      let m : ℕ = failing (plan old t) i b r in
      let f = test_false (eqb m 0) m k 0 n p c e in
      let w = test-numbers (eqb m 0) m k 0 n p c e in
      record {
        earlier = [];
        bad = r;
        later = rs;
        whole = refl;
        at_place = omega (arith, w.1);
        earlier_pass = refl;
        fails = fails-first (plan old t) i b r n w.0 (positive m n w.0 f);
        no_count = sym w.2;
      }
    where
      positive : (m n : ℕ) → m ≡ n → eqb m 0 ≡ false → 0 < n
      positive zero n e f = let z : ◌≡◌ {A = ℕ} 0 1 = cc in absurd (omega arith)
      positive (suc m) n e f = omega arith

  found_behind : (k : ℕ) (b : Option Record) (r : Record) (rs : List Record) (n p c : ℕ)
      → test (eqb (failing (plan old t) i b r) 0) (failing (plan old t) i b r) k 0 ≡ Passed
      → Found t i (suc k) (Some r) rs n p c → Found t i k b (r ∷ rs) n p c
  unfolding tested
  found_behind k b r rs n p c e h =
      record {
        earlier = r ∷ h.earlier;
        bad = h.bad;
        later = h.later;
        whole = ap (λ (l : List Record). r ∷ l) h.whole;
        at_place = omega (arith, h.at_place);
        earlier_pass = rw e h.earlier_pass;
        fails = h.fails;
        no_count = h.no_count;
      }

  found : (k : ℕ) (b : Option Record) (l : List Record) (n p c : ℕ) → tested (plan old t) i k b l ≡ Failed n p c
      → Found t i k b l n p c
  unfolding tested
  found k b [] n p c e = let z : ◌≡◌ {A = ℕ} 0 1 = cc in absurd (omega arith)
  found k b (r ∷ rs) n p c e =
      let m : ℕ = failing (plan old t) i b r in
      by (which (test (eqb m 0) m k 0) (tested (plan old t) i (suc k) (Some r) rs) n p c e)
      (λ h. found (suc k) (Some r) rs n p c h)
    where
      by : Which (test (eqb (failing (plan old t) i b r) 0) (failing (plan old t) i b r) k 0)
          (tested (plan old t) i (suc k) (Some r) rs) (Failed n p c)
          → (tested (plan old t) i (suc k) (Some r) rs ≡ Failed n p c → Found t i (suc k) (Some r) rs n p c)
          → Found t i k b (r ∷ rs) n p c
      by (first h) f = found_here k b r rs n p c h
      by (others h w) f = found_behind k b r rs n p c h (f w)

-- ---- tests 1 to 9
module _ (evens : Bool) (t i : Table) (l : List Record) where
  abbrev rows : ℕ
  rows = count (result t i l)

  abbrev R : (n p c : ℕ) → Type 0
  R = Judged evens t i l

  abbrev few : Bool
  few = leb (length l) most_records

  abbrev records : Verdict
  records = tested (plan old t) i 0 None l

  by_records : (n p c : ℕ) → T evens → T (sound t) → few ≡ true → records ≡ Failed n p c → R n p c
  by_records n p c he ht hf h =
      let w = found t i 0 None l n p c h in
      subst (R n p) (sym w.no_count)
      (bad-record n p he ht (leb-true (length l) most_records hf)
      (record {
        earlier = w.earlier;
        bad = w.bad;
        later = w.later;
        whole = w.whole;
        at_place = omega (arith, w.at_place);
        earlier_pass = w.earlier_pass;
        fails = w.fails;
      }))

  by_rows : (n p c : ℕ) → T evens → T (sound t) → few ≡ true → records ≡ Passed
      → test (leb rows most_rows) 9 0 rows ≡ Failed n p c → R n p c
  by_rows n p c he ht hf hr h =
      like R (too_large he ht (leb-true (length l) most_records hf) hr
      (leb-false rows most_rows (test_false (leb rows most_rows) 9 0 rows n p c h)))
      (test-numbers (leb rows most_rows) 9 0 rows n p c h)

  -- the tests from test 4 on
  last-tests : Verdict
  last-tests = then records (test (leb rows most_rows) 9 0 rows)

  by_records_rows : (n p c : ℕ) → T evens → T (sound t) → few ≡ true → last-tests ≡ Failed n p c → R n p c
  unfolding last-tests
  by_records_rows n p c he ht hf h = go (which records (test (leb rows most_rows) 9 0 rows) n p c h)
    where
      go : Which records (test (leb rows most_rows) 9 0 rows) (Failed n p c) → R n p c
      go (first z) = by_records n p c he ht hf z
      go (others z w) = by_rows n p c he ht hf z w

  by_length : (n p c : ℕ) → T evens → T (sound t) → then (test few 3 0 0) last-tests ≡ Failed n p c → R n p c
  by_length n p c he ht h = go (which (test few 3 0 0) last-tests n p c h)
    where
      go : Which (test few 3 0 0) last-tests (Failed n p c) → R n p c
      go (first z) =
          like R (too_many he ht (leb-false (length l) most_records (test_false few 3 0 0 n p c z)))
          (test-numbers few 3 0 0 n p c z)
      go (others z w) = by_records_rows n p c he ht (test_true few 3 0 0 z) w

  abbrev behind_one : Verdict
  behind_one = then (test (sound t) 2 0 0) (then (test few 3 0 0) last-tests)

  by_table : (n p c : ℕ) → T evens → behind_one ≡ Failed n p c → R n p c
  by_table n p c he h = go (which (test (sound t) 2 0 0) (then (test few 3 0 0) last-tests) n p c h)
    where
      go : Which (test (sound t) 2 0 0) (then (test few 3 0 0) last-tests) (Failed n p c) → R n p c
      go (first z) = like R (unsound he (test_false (sound t) 2 0 0 n p c z)) (test-numbers (sound t) 2 0 0 n p c z)
      go (others z w) = by_length n p c he (T_of (sound t) (test_true (sound t) 2 0 0 z)) w

  pub judged_for : (n p c : ℕ) → judged evens t i l ≡ Failed n p c → Judged evens t i l n p c
  unfolding judged last-tests
  judged_for n p c h = go (which (test evens 1 0 0) behind_one n p c h)
    where
      go : Which (test evens 1 0 0) behind_one (Failed n p c) → R n p c
      go (first z) = like R (uneven (test_false evens 1 0 0 n p c z)) (test-numbers evens 1 0 0 n p c z)
      go (others z w) = by_table n p c (T_of evens (test_true evens 1 0 0 z)) w

  -- ---- and a last test behind these
  pub refused-last : {Last : (n p c : ℕ) → Type 0} (b : Bool) (x y z : ℕ) → (b ≡ false → Last x y z) → (n p c : ℕ)
      → then (judged evens t i l) (test b x y z) ≡ Failed n p c → Reason evens t i l Last n p c
  refused-last {Last} b x y z f n p c h = go (which (judged evens t i l) (test b x y z) n p c h)
    where
      go : Which (judged evens t i l) (test b x y z) (Failed n p c) → Reason evens t i l Last n p c
      go (first e) = by_list (judged_for n p c e)
      go (others e w) = by_last e (like Last (f (test_false b x y z n p c w)) (test-numbers b x y z n p c w))

-- a refused call is refused for a published reason, the first that holds: a bulk or single call, a mapping of one row,
-- a mapping as whole columns
pub refused_for : (evens : Bool) (t i : Table) (l : List Record) (u : Table) (n p c : ℕ)
    → bulk evens t i l u ≡ Failed n p c
    → Reason (all_even evens t i u) t i l (NoRoom (count (result t i l)) (length u.size)) n p c
unfolding bulk
refused_for evens t i l u n p c h =
    let rows = count (result t i l) in
    refused-last (all_even evens t i u) t i l (leb rows (length u.size)) 10 0 rows
    (λ f. no_room (leb-false rows (length u.size) f)) n p c h

module _ (evens : Bool) (t i : Table) (l : List Record) (m r : ℕ) (n p c : ℕ) where
  abbrev lent : Bool
  lent = evens && (even t && even i)

  pub query_refused_for : queried evens t i l m r ≡ Failed n p c → Reason lent t i l (NoRow m r) n p c
  unfolding queried
  query_refused_for h = refused-last lent t i l (ltb r m) 11 r 0 (λ f. no_row (ltb-false r m f)) n p c h

  pub map-refused_for : mapped evens t i l m r ≡ Failed n p c → Reason lent t i l (NoRoom m r) n p c
  unfolding mapped
  map-refused_for h = refused-last lent t i l (leb m r) 10 0 m (λ f. no_room (leb-false m r f)) n p c h

-- a mapping answers a refusal just where its tests fail
pub became-refused : (v : Verdict) (f : Fate) (n p c : ℕ) → became v f ≡ NotBecame n p c → v ≡ Failed n p c
became-refused Passed (row m) n p c h = let z : ◌≡◌ {A = ℕ} 0 1 = cc in absurd (omega arith)
became-refused Passed gone n p c h = let z : ◌≡◌ {A = ℕ} 0 1 = cc in absurd (omega arith)
became-refused (Failed n' p' c') f n p c h = cc

pub was-refused : (v : Verdict) (o : Origin) (n p c : ℕ) → was v o ≡ NotWas n p c → v ≡ Failed n p c
was-refused Passed (old r) n p c h = let z : ◌≡◌ {A = ℕ} 0 1 = cc in absurd (omega arith)
was-refused Passed (new k i) n p c h = let z : ◌≡◌ {A = ℕ} 0 1 = cc in absurd (omega arith)
was-refused (Failed n' p' c') o n p c h = cc

-- ---- what a number tells
fails-number : {A : Type 0} {t : Forest A} {i : Table} {b : Option Record} {r : Record} {n : ℕ} → Fails t i b r n
    → (0 < n) × (n < 9)
fails-number (four a) = omega arith
fails-number (five a b) = omega arith
fails-number (six a b c) = omega arith
fails-number (seven a b c d) = omega arith
fails-number (eight a b c d e) = omega arith

room-number : {m room n p c : ℕ} → NoRoom m room n p c → (0 < n) × (c ≡ m)
room-number (no_room h) = (omega arith, refl)

module _ {evens : Bool} {t i : Table} {l : List Record} where
  judged-number : {n p c : ℕ} → Judged evens t i l n p c → 0 < n
  judged-number (uneven e) = omega arith
  judged-number (unsound e f) = omega arith
  judged-number (too_many e f m) = omega arith
  judged-number (bad-record n p e f m h) = (fails-number h.fails).0
  judged-number (too_large e f m h k) = omega arith

  judged-rows : {n p c : ℕ} → Judged evens t i l n p c → 9 ≤ n → c ≡ count (result t i l)
  judged-rows (uneven e) x = absurd (omega arith)
  judged-rows (unsound e f) x = absurd (omega arith)
  judged-rows (too_many e f m) x = absurd (omega arith)
  judged-rows (bad-record n p e f m h) x = absurd (omega (arith, fails-number h.fails))
  judged-rows (too_large e f m h k) x = refl

  -- no reason of a call that writes has the number 0; with 9 or 10 the count is the rows needed
  pub reason_number : {m room n p c : ℕ} → Reason evens t i l (NoRoom m room) n p c → 0 < n
  reason_number (by_list h) = judged-number h
  reason_number (by_last e h) = (room-number h).0

  pub reason_rows : {room n p c : ℕ} → Reason evens t i l (NoRoom (count (result t i l)) room) n p c → 9 ≤ n
      → c ≡ count (result t i l)
  reason_rows (by_list h) x = judged-rows h x
  reason_rows (by_last e h) x = (room-number h).1
