-- What the tests of an axis tell: which of them fails, and what holds where they pass.
-- Assumes nothing.
use Prim.Native.Nat.{ℕ, ◌+◌, ◌-◌, ◌≤◌, ◌<◌}
use native.Mathlib.Omega.{arith}
use mathlib.Core.Path.{◌≡◌, refl}
use mathlib.Core.Bool.{Bool, true, false, cond, ◌&&◌}
use mathlib.Core.List.{List}
use borrow.Author.Tests.{lt-ltb, le-ltb, le-leb, lt-leb, eq-eqb, ne_eqb, ltb-true, leb-true, eqb-true}
use lib.Dec.{leb, ltb, eqb}
use lib.ListN.{length}
use Rattle.plan.specs.Table.{Table, even, sound}
use Rattle.plan.specs.Answer.{accepted, refused}
use Rattle.plan.specs.Verdict.{Verdict}
use Rattle.plan.specs.Verdict.{Passed, Failed}
use Rattle.plan.specs.Call.{test}
use Rattle.plan.proofs.Verdicts.{test_true, then-passed}
use Rattle.plan.specs.Axes.{cell, soundness, Reply, row, nothing, refuse, reply, asked, whole, parent, next_sibling, child, ended, stopped, step}

-- ---- tests one after another
pub and_true : (x y : Bool) → x && y ≡ true → (x ≡ true) × (y ≡ true)
and_true true y h = (refl, h)
and_true false y h = let z : ◌≡◌ {A = ℕ} 0 1 = cc in absurd (omega arith)

pub reply-row : (v : Verdict) (x : Reply) (q : ℕ) → reply v x ≡ row q → (v ≡ Passed) × (x ≡ row q)
reply-row Passed x q h = (refl, h)
reply-row (Failed number place count) x q h = let z : ◌≡◌ {A = ℕ} 0 1 = cc in absurd (omega arith)

pub reply-passed : (v : Verdict) (x : Reply) → v ≡ Passed → x ≡ reply v x
reply-passed v x e = rw e

pub reply_failed : (v : Verdict) (x : Reply) (number place count : ℕ) → v ≡ Failed number place count
    → refuse number place ≡ reply v x
reply_failed v x number place count e = rw e

cond-row : (b : Bool) (x : Reply) (q : ℕ) → cond b nothing x ≡ row q → (b ≡ false) × (x ≡ row q)
cond-row true x q h = let z : ◌≡◌ {A = ℕ} 0 1 = cc in absurd (omega arith)
cond-row false x q h = (refl, h)

pub row_same : (r q : ℕ) → row r ≡ row q → r ≡ q
row_same r q h = cc

-- ---- test 1
module _ (t : Table) where
  pub even_of : length t.dist ≡ length t.size → length t.value ≡ length t.size → even t ≡ true
  unfolding even
  even_of d v = rw (eq-eqb _ _ d, eq-eqb _ _ v)

  pub uneven-dist : (length t.dist ≡ length t.size → ⊥) → even t ≡ false
  unfolding even
  uneven-dist d = rw (ne_eqb _ _ d)

  pub uneven-value : length t.dist ≡ length t.size → (length t.value ≡ length t.size → ⊥) → even t ≡ false
  unfolding even
  uneven-value d v = rw (eq-eqb _ _ d, ne_eqb _ _ v)

  pub even_lengths : even t ≡ true
      → (length t.dist ≡ length t.size) × (length t.value ≡ length t.size)
  unfolding even
  even_lengths h =
      let w = and_true (eqb (length t.dist) (length t.size)) (eqb (length t.value) (length t.size)) h in
      (eqb-true _ _ w.0, eqb-true _ _ w.1)

  -- and test 2
  pub soundness-uneven : even t ≡ false → soundness t ≡ refused 1 0 0
  unfolding soundness
  soundness-uneven e = rw e

  pub soundness-unsound : even t ≡ true → sound t ≡ false → soundness t ≡ refused 2 0 0
  unfolding soundness
  soundness-unsound e f = rw (e, f)

  pub soundness-sound : even t ≡ true → sound t ≡ true → soundness t ≡ accepted (length t.size)
  unfolding soundness
  soundness-sound e f = rw (e, f)

-- ---- tests 1 and 11, and 12 for a subtree
module _ (t : Table) (r : ℕ) where
  pub asked-uneven : even t ≡ false → asked t r ≡ Failed 1 0 0
  unfolding asked
  asked-uneven e = rw e

  pub asked-past : even t ≡ true → length t.size ≤ r → asked t r ≡ Failed 11 r 0
  unfolding asked
  asked-past e l = rw (e, le-ltb _ _ l)

  pub asked_of : even t ≡ true → r < length t.size → asked t r ≡ Passed
  unfolding asked
  asked_of e l = rw (e, lt-ltb _ _ l)

  pub asked-passed : asked t r ≡ Passed → (even t ≡ true) × (r < length t.size)
  unfolding asked
  asked-passed h =
      let w = then-passed (test (even t) 1 0 0) (test (ltb r (length t.size)) 11 r 0) h in
      (test_true (even t) 1 0 0 w.0, ltb-true r (length t.size) (test_true _ 11 r 0 w.1))

  pub whole_small : asked t r ≡ Passed → cell t.size r ≡ 0 → whole t r ≡ Failed 12 r 0
  unfolding whole
  whole_small e z = rw (e, lt-leb 1 (cell t.size r) (omega arith))

  pub whole-past : asked t r ≡ Passed → length t.size < r + cell t.size r → whole t r ≡ Failed 12 r 0
  unfolding whole
  whole-past e l =
      let i : r < length t.size = (asked-passed e).1 in
      rw (e, le-leb 1 (cell t.size r) (omega arith), lt-leb _ _ l)

  pub whole_of : asked t r ≡ Passed → 1 ≤ cell t.size r → r + cell t.size r ≤ length t.size
      → whole t r ≡ Passed
  unfolding whole
  whole_of e some fits = rw (e, le-leb _ _ some, le-leb _ _ fits)

  pub whole-passed : whole t r ≡ Passed
      → (asked t r ≡ Passed) × (1 ≤ cell t.size r) × (r + cell t.size r ≤ length t.size)
  unfolding whole
  whole-passed h =
      let s : ℕ = cell t.size r in
      let n : ℕ = length t.size in
      let w = then-passed (asked t r) (test (leb 1 s && leb (r + s) n) 12 r 0) h in
      let b = and_true (leb 1 s) (leb (r + s) n) (test_true _ 12 r 0 w.1) in
      (w.0, leb-true 1 s b.0, leb-true (r + s) n b.1)

-- ---- parent
module _ (t : Table) (r : ℕ) where
  pub parent-root : asked t r ≡ Passed → r ≡ 0 → parent t r ≡ nothing
  unfolding parent
  parent-root e z = rw (e, eq-eqb r 0 z)

  pub parent_small : asked t r ≡ Passed → 0 < r → cell t.dist r ≡ 0 → parent t r ≡ refuse 12 r
  unfolding parent
  parent_small e l z = rw (e, ne_eqb r 0 (λ i. omega arith), lt-leb 1 (cell t.dist r) (omega arith))

  pub parent-past : asked t r ≡ Passed → 0 < r → r < cell t.dist r → parent t r ≡ refuse 12 r
  unfolding parent
  parent-past e l p =
      rw (e, ne_eqb r 0 (λ i. omega arith), le-leb 1 (cell t.dist r) (omega arith), lt-leb (cell t.dist r) r p)

  pub parent_of : (q : ℕ) → asked t r ≡ Passed → q < r → q + cell t.dist r ≡ r → parent t r ≡ row q
  unfolding parent
  parent_of q e l far =
      let d : ℕ = cell t.dist r in
      let i : r - d ≡ q = omega arith in
      rw (e, ne_eqb r 0 (λ z. omega arith), le-leb 1 d (omega arith), le-leb d r (omega arith), i)

  pub parent_row : (q : ℕ) → parent t r ≡ row q → (asked t r ≡ Passed) × (q < r)
  unfolding parent
  parent_row q h =
      let d : ℕ = cell t.dist r in
      let w = reply-row (asked t r) _ q h in
      let z = cond-row (eqb r 0) _ q w.1 in
      let y = reply-row (test (leb 1 d && leb d r) 12 r 0) (row (r - d)) q z.1 in
      let b = and_true (leb 1 d) (leb d r) (test_true _ 12 r 0 y.0) in
      (w.0, omega (arith, leb-true 1 d b.0, leb-true d r b.1, row_same (r - d) q y.1))

-- ---- next sibling: s is the size of r, and e the end of its parent q
module _ (t : Table) (r q s e : ℕ) (p : parent t r ≡ row q) (hs : s ≡ cell t.size r)
    (he : e ≡ q + cell t.size q) where
  pub sibling_small : s ≡ 0 → next_sibling t r ≡ refuse 12 r
  unfolding next_sibling
  sibling_small z = rw (p, ← hs, ← he, lt-leb 1 s (omega arith))

  pub sibling_long : 1 ≤ s → length t.size < e → next_sibling t r ≡ refuse 12 r
  unfolding next_sibling
  sibling_long some l = rw (p, ← hs, ← he, le-leb 1 s some, lt-leb e (length t.size) l)

  pub sibling_past : 1 ≤ s → e ≤ length t.size → e < r + s → next_sibling t r ≡ refuse 12 r
  unfolding next_sibling
  sibling_past some fits l =
      rw (p, ← hs, ← he, le-leb 1 s some, le-leb e (length t.size) fits, lt-leb (r + s) e l)

  pub sibling_of : 1 ≤ s → e ≤ length t.size → r + s ≤ e
      → next_sibling t r ≡ cond (ltb (r + s) e) (row (r + s)) nothing
  unfolding next_sibling
  sibling_of some fits inside =
      rw (p, ← hs, ← he, le-leb 1 s some, le-leb e (length t.size) fits, le-leb (r + s) e inside)

-- ---- the step of a walk
module _ (size : List ℕ) (c e : ℕ) where
  pub step_end : c ≡ e → step size c e ≡ ended
  unfolding step
  step_end i = rw (eq-eqb c e i)

  pub step_small : (c ≡ e → ⊥) → cell size c ≡ 0 → step size c e ≡ stopped 12 c
  unfolding step
  step_small i z = rw (ne_eqb c e i, lt-leb 1 (cell size c) (omega arith))

  pub step_past : (c ≡ e → ⊥) → 1 ≤ cell size c → e < c + cell size c → step size c e ≡ stopped 12 c
  unfolding step
  step_past i some l = rw (ne_eqb c e i, le-leb 1 (cell size c) some, lt-leb (c + cell size c) e l)

  pub step-child : 1 ≤ cell size c → c + cell size c ≤ e → step size c e ≡ child c (c + cell size c)
  unfolding step
  step-child some fits =
      rw (ne_eqb c e (λ i. omega arith), le-leb 1 (cell size c) some, le-leb (c + cell size c) e fits)
