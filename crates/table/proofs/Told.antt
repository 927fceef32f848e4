-- What an answer tells where a pattern takes it apart: the passing case, and the refusal that is handed on.
-- Assumes nothing.
use Rattle.std.proofs.Common.{◌≡◌, ℕ, ◌+◌, ◌<◌, ◌≤◌, Bool, true, [], length, take, drop, Option, Some, None, Result, Ok, Err, is_ok, sym, refl, ap, ◌∙◌, arith}
use Rattle.std.specs.Prelude.{⊤, IsErrAnd}
use Rattle.plan.specs.Verdict.{Verdict}
use Rattle.plan.specs.Verdict.{Passed, Failed}
use Rattle.plan.specs.declared.refusal.Uneven.{Uneven as UnevenTest}
use Rattle.plan.specs.declared.refusal.Refusal.{Refusal}
use Rattle.plan.specs.declared.refusal.Refusal.TheVariants.{Uneven, Unsound, TooManyRecords, BadRecord, TooManyRows, NoRoom, NoSuchRow}
use Rattle.plan.specs.declared.refusal.RowRefusal.{RowRefusal}
use Rattle.plan.specs.declared.refusal.RowRefusal.TheVariants.{Uneven as UnevenTable, NoSuchRow as NoRow, Broken}
use Rattle.plan.specs.Table.{Table, even, sound}
use Rattle.plan.specs.Call.{then, test, answer}
use Rattle.plan.specs.Told.{even_told, failed, answer_told, refused_told, reply_told, start_told}
use Rattle.plan.specs.Axes.{soundness, cell, Reply, row, nothing, reply, part_where, start_where, asked, asked_row, whole, parent, first_child, next_sibling, subtree_top, subtree, walk_start}
use Rattle.plan.proofs.Verdicts.{passed-told, failed_told}
use Rattle.plan.proofs.Tests.{soundness-uneven, reply-row, row_same, even_lengths, asked-passed, whole-passed, parent_row}

-- a refusal that is handed on
pub handed_on : {A E B : Type 0} (told : Result A E → B) (r : Result A E) {e : E} {b : B} → IsErrAnd r (λ f. f ≡ e)
    → told (Err e) ≡ b → told r ≡ b
handed_on told (Ok a) h k = absurd h
handed_on told (Err f) h k = ap (λ g. told (Err g)) h ∙ k

-- ---- tests 1 and 2
pub even_says : (r : Result ⊤ UnevenTest) (b : Bool) → even_told r ≡ test b 1 0 0 → {v : Bool} → v ≡ is_ok r → b ≡ v
even_says (Ok x) b h e = passed-told b 1 0 0 h refl ∙ sym e
even_says (Err x) b h e = failed_told b 1 0 0 h refl ∙ sym e

-- the answer of a call that hands a refusal on
pub answer_failed : (e : Refusal) (v : Verdict) (rows : ℕ) → failed e ≡ v → answer (failed e) 0 ≡ answer v rows
answer_failed Uneven v rows h = ap (λ (w : Verdict). answer w rows) h
answer_failed Unsound v rows h = ap (λ (w : Verdict). answer w rows) h
answer_failed TooManyRecords v rows h = ap (λ (w : Verdict). answer w rows) h
answer_failed (BadRecord f k) v rows h = ap (λ (w : Verdict). answer w rows) h
answer_failed (TooManyRows n) v rows h = ap (λ (w : Verdict). answer w rows) h
answer_failed (NoRoom n) v rows h = ap (λ (w : Verdict). answer w rows) h
answer_failed (NoSuchRow r) v rows h = ap (λ (w : Verdict). answer w rows) h

-- of an even table the soundness call makes test 2
pub soundness-even : (t : Table) → even t ≡ true → answer (test (sound t) 2 0 0) (length t.size) ≡ soundness t
unfolding soundness
soundness-even t e = rw e refl

-- what it hands back: uneven, unsound, or the number of rows
module _ (t : Table) where
  pub soundness_odd : (a : Result ℕ Refusal) → IsErrAnd a (λ e. e ≡ Uneven) → Failed 1 0 0 ≡ test (even t) 1 0 0
      → answer_told a ≡ soundness t
  soundness_odd a k h = handed_on answer_told a k (sym (soundness-uneven t (failed_told (even t) 1 0 0 h refl)))

  pub soundness_bad : (a : Result ℕ Refusal) (e : Refusal) → IsErrAnd a (λ f. f ≡ e)
      → Passed ≡ test (even t) 1 0 0 → failed e ≡ test (sound t) 2 0 0 → answer_told a ≡ soundness t
  soundness_bad a e k h s =
      handed_on answer_told a k
      (answer_failed e (test (sound t) 2 0 0) (length t.size) s
      ∙ soundness-even t (passed-told (even t) 1 0 0 h refl))

  pub soundness_rows : Passed ≡ test (even t) 1 0 0 → Passed ≡ test (sound t) 2 0 0
      → answer_told (Ok (length t.size)) ≡ soundness t
  soundness_rows h s =
      ap (λ (v : Verdict). answer v (length t.size)) s ∙ soundness-even t (passed-told (even t) 1 0 0 h refl)

-- ---- a call on a row
-- the row x that was found is the row r that was asked about, in columns of one length
pub record RowIn (t : Table) (r x : ℕ) : Type 0 where
  pub tests : asked t r ≡ Passed
  pub same : x ≡ r
  pub dist-length : length t.dist ≡ length t.size
  pub value-length : length t.value ≡ length t.size
  pub within : x < length t.size

pub row_in : (t : Table) (r x : ℕ) → asked t r ≡ Passed → x ≡ r → RowIn t r x
row_in t r x h e =
    let w = asked-passed t r h in
    let l = even_lengths t w.0 in
    record { tests = h; same = e; dist-length = l.0; value-length = l.1; within = omega (arith, w.1) }

row_is : (v : Verdict) (r x : ℕ) → row x ≡ reply v (row r) → (v ≡ Passed) × (x ≡ r)
row_is v r x h =
    let w = reply-row v (row r) x (sym h) in
    (w.0, sym (row_same r x w.1))

-- tests 1 and 11 passed
pub asked-told : (t : Table) (r x : ℕ) → row x ≡ asked_row t r → RowIn t r x
asked-told t r x h =
    let w = row_is (asked t r) r x h in
    row_in t r x w.0 w.1

pub asked_within : (t : Table) (r x : ℕ) → row x ≡ asked_row t r → (x < length t.size) × (length t.dist ≡ length t.size)
asked_within t r x h = let w = asked-told t r x h in (w.within, w.dist-length)

-- and its subtree lies in the table
pub record TopIn (t : Table) (r x : ℕ) : Type 0 where
  pub tests : whole t r ≡ Passed
  pub row_in : RowIn t r x
  pub some : 1 ≤ cell t.size r
  pub fits : r + cell t.size r ≤ length t.size

pub top-told : (t : Table) (r x : ℕ) → row x ≡ subtree_top t r → TopIn t r x
unfolding subtree_top
top-told t r x h =
    let w = row_is (whole t r) r x h in
    let v = whole-passed t r w.0 in
    record { tests = w.0; row_in = row_in t r x v.0 w.1; some = v.1; fits = v.2 }

pub top_within : (t : Table) (r x : ℕ) → row x ≡ subtree_top t r → x < length t.size
top_within t r x h = (top-told t r x h).row_in.within

-- the row q that was found is the parent of r
pub record ParentIn (t : Table) (r q : ℕ) : Type 0 where
  pub is : parent t r ≡ row q
  pub row_in : RowIn t r r
  pub before : q < r

pub parent-told : (t : Table) (r q : ℕ) (o : Option ℕ) → reply_told (Ok o) ≡ parent t r → o ≡ Some q → ParentIn t r q
parent-told t r q o h e =
    let i : parent t r ≡ row q = sym h ∙ ap (λ (x : Option ℕ). reply_told (Ok x)) e in
    let w = parent_row t r q i in
    record { is = i; row_in = row_in t r r w.0 refl; before = w.1 }

-- ---- it is refused: so is each call that makes the same tests first
pub differ : {P : Type 0} → ◌≡◌ {A = ℕ} 0 1 → P
differ e = absurd (omega arith)

pub no-row : {P : Type 0} (e : RowRefusal) (r : ℕ) → refused_told e ≡ row r → P
no-row UnevenTable r h = differ (cc)
no-row (NoRow q) r h = differ (cc)
no-row (Broken q) r h = differ (cc)

failed_at : (e : RowRefusal) (v : Verdict) (r : ℕ) (x : Reply) → refused_told e ≡ reply v (row r)
    → refused_told e ≡ reply v x
failed_at e Passed r x h = no-row e r h
failed_at e (Failed number place count) r x h = h

failed_by : (e : RowRefusal) (v w : Verdict) (r : ℕ) (x : Reply) → refused_told e ≡ reply v (row r)
    → refused_told e ≡ reply (then v w) x
failed_by e Passed w r x h = no-row e r h
failed_by e (Failed number place count) w r x h = h

module _ (t : Table) (r : ℕ) (e : RowRefusal) where
  -- of tests 1 and 11
  module _ (h : refused_told e ≡ asked_row t r) where
    pub parent_handed : refused_told e ≡ parent t r
    unfolding parent
    parent_handed = failed_at e (asked t r) r _ h

    pub top_handed : refused_told e ≡ subtree_top t r
    unfolding subtree_top whole
    top_handed = failed_by e (asked t r) _ r _ h

  -- of the tests of a subtree
  module _ (h : refused_told e ≡ subtree_top t r) where
    pub child_handed : refused_told e ≡ first_child t r
    unfolding first_child subtree_top
    child_handed = failed_at e (whole t r) r _ h

    pub part_handed : [] ≡ subtree t r
    unfolding subtree subtree_top
    part_handed = go (whole t r) h
      where
        go : (v : Verdict) → refused_told e ≡ reply v (row r)
            → [] ≡ part_where v (take (cell t.size r) (drop r t.value))
        go Passed k = no-row e r k
        go (Failed number place count) k = refl

    pub start_handed : start_told (Err e) ≡ walk_start t r
    unfolding walk_start subtree_top
    start_handed = go (whole t r) h
      where
        go : (v : Verdict) → refused_told e ≡ reply v (row r)
            → start_told (Err e) ≡ start_where v r (r + 1) (r + cell t.size r)
        go Passed k = no-row e r k
        go (Failed number place count) k = λ i. record { answer = k i; next = 0; end = 0 }

  -- of the parent
  pub sibling_handed : refused_told e ≡ parent t r → refused_told e ≡ next_sibling t r
  unfolding next_sibling
  sibling_handed h = go e h
    where
      go : (f : RowRefusal) → refused_told f ≡ parent t r → refused_told f ≡ next_sibling t r
      go UnevenTable k = rw (← k)
      go (NoRow q) k = rw (← k)
      go (Broken q) k = rw (← k)

-- of a row with no parent
pub sibling_none : (t : Table) (r : ℕ) (o : Option ℕ) → reply_told (Ok o) ≡ parent t r → o ≡ None
    → nothing ≡ next_sibling t r
unfolding next_sibling
sibling_none t r o h e =
    let i : nothing ≡ parent t r = sym (ap (λ (x : Option ℕ). reply_told (Ok x)) e) ∙ h in
    rw (← i)
