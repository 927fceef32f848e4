-- The machine over rows that no change is for: all that are left under the open row, or the first of them, of which the
-- last is then open. Each row is written as it was, but for the distances that lead to the open row.
-- Assumes nothing.
use Prim.Native.Nat.{ℕ, suc, ◌+◌, ◌-◌, ◌≤◌, ◌<◌}
use native.Mathlib.Omega.{arith}
use mathlib.Core.Path.{◌≡◌, refl, sym, ap, ◌∙◌, subst}
use mathlib.Core.List.{List, [], ◌∷◌, ◌++◌}
use lib.ListN.{length, get_or, take, get_or-append}
use lib.Seq.{append_snoc, take-append-le, take-append-add, get_or-append-add}
use borrow.Author.Tests.{ne_eqb}
use Rattle.plan.specs.Tree.{Forest, none, tree, count, labels, sizes, dists}
use Rattle.plan.specs.Table.{Table}
use Rattle.plan.specs.Change.{Change, insert, act}
use Rattle.plan.specs.Open.{dist_at, size_at}
use Rattle.plan.proofs.Kit.{by_place, by_side}
use Rattle.plan.proofs.Columns.{length-dists, length-sizes, length-labels}
use Rattle.pass_moves.proofs.Rows.{table_eq, tall_rows, tall_is, rows_assoc, rows_beside}
use Rattle.pass_moves.specs.Rows.{◌⧺◌, one_row, rows, first_rows, Tall}
use Rattle.pass_way.specs.Machine.{State, state, value_at, opened, step, Reach, stop}
use Rattle.pass_way.proofs.Machine.{state_eq, reach_trans, step_to}
use Rattle.pass_way.proofs.MachineForest.{Good, good_pasted, good_opened, after, old-kids, old-rest, old-size, old_value, walks}
use Rattle.pass_way.specs.Line.{Old, Line}
use Rattle.pass_way.proofs.MachineBetween.{Far, far_less, no_insert, pass_far, old-alone}
use Rattle.pass_way.proofs.Line.{line-next, line_open, line_at}

-- ---- the first rows of a tree and its siblings
first_cons : (xs ys zs : List ℕ) (d m n : ℕ) → n ≡ suc m → m ≤ length ys
    → (xs ++ (d ∷ [])) ++ take m ys ≡ xs ++ take n (d ∷ (ys ++ zs))
first_cons xs ys zs d m n e h =
    rw e (append_snoc xs d (take m ys) ∙ ap (λ (w : List ℕ). xs ++ (d ∷ w)) (sym (take-append-le m ys zs h)))

-- up to a row of the first tree
first-inside : (u : Table) (d s a m n : ℕ) (k r : Forest ℕ) → n ≡ suc m → m ≤ count k → s ≡ suc (count k)
    → (u ⧺ one_row d s a) ⧺ first_rows m (rows 1 k) ≡ u ⧺ first_rows n (rows d (tree a k r))
first-inside u d s a m n k r e h w =
    table_eq
    (first_cons u.dist (dists 1 k) (dists (d + suc (count k)) r) d m n e (omega (arith, length-dists 1 k)))
    (rw w (first_cons u.size (sizes k) (sizes r) (suc (count k)) m n e (omega (arith, length-sizes k))))
    (first_cons u.value (labels k) (labels r) a m n e (omega (arith, length-labels k)))

-- the first row alone
first_one : (u : Table) (d s a n : ℕ) (k r : Forest ℕ) → n ≡ 1 → s ≡ suc (count k)
    → u ⧺ one_row d s a ≡ u ⧺ first_rows n (rows d (tree a k r))
first_one u d s a n k r e w = rw (e, w)

past_col : (xs ys : List ℕ) (l m n : ℕ) → length xs ≡ l → n ≡ l + m → xs ++ take m ys ≡ take n (xs ++ ys)
past_col xs ys l m n h e = rw (e, ← h) (sym (take-append-add xs ys m))

-- up to a row behind it
first_beyond : (u : Table) (d e a m n : ℕ) (k r : Forest ℕ) → n ≡ suc (count k) + m → e ≡ d + suc (count k)
    → (u ⧺ rows d (tree a k none)) ⧺ first_rows m (rows e r) ≡ u ⧺ first_rows n (rows d (tree a k r))
first_beyond u d e a m n k r w z =
    let f : Forest ℕ = tree a k none in
    let v : Table = rows d f in
    let y : Table = rows e r in
    let h : Tall (suc (count k)) v = tall_is (omega arith) (tall_rows d f) in
    rows_assoc u v (first_rows m y)
    ∙ ap (λ (x : Table). u ⧺ x)
    (table_eq (past_col v.dist y.dist (suc (count k)) m n h.dist w)
    (past_col v.size y.size (suc (count k)) m n h.size w)
    (past_col v.value y.value (suc (count k)) m n h.value w)
    ∙ ap (first_rows n) (rows_beside d e f r (omega arith)))

module _ (t : Table) where
  -- a row that no change is for is opened
  step-far : (i o r j : ℕ) (u : Table) (cs : List (Change ℕ)) → Far i cs → (i ≡ r + size_at t r → ⊥)
      → step t (state i o r j u cs) ≡ opened t (state i o r j u cs) (value_at t i) cs
  unfolding step
  step-far i o r j u [] h e = rw (ne_eqb i (r + size_at t r) e)
  step-far i o r j u (act p x ∷ cs) h e = rw (ne_eqb i (r + size_at t r) e, ne_eqb p i (omega arith))
  step-far i o r j u (insert p q s ∷ cs) h e = rw (no_insert i (suc r) p q s h, ne_eqb i (r + size_at t r) e)

  -- the machine over a whole forest
  pub all_reach : (b q j o : ℕ) (f : Forest ℕ) (u : Table) (cs : List (Change ℕ)) → q < b → Old t b q f
      → b + count f ≤ q + size_at t q → Good o j u → Far (b + count f) cs
      → Reach t (state b o q j u cs) (after (b + count f) o q j u (f, cs))
  all_reach b q j o f u cs l h room g w =
      rw (pass_far b (suc q) (b + count f) f cs refl w) at (walks t b q f l h room j o u cs g)

  -- the machine over its first n rows
  pub part-reach : (b q : ℕ) (f : Forest ℕ) → q < b → Old t b q f → b + count f ≤ q + size_at t q
      → (n j o : ℕ) (u : Table) (cs : List (Change ℕ)) → 0 < n → n ≤ count f → Good o j u → Far (b + n - 1) cs
      → Reach t (state b o q j u cs)
      (state (b + n) (o + n) (b + n - 1) (o + n - 1) (u ⧺ first_rows n (rows (o - j) f)) cs)
  part-reach b q none l h room n j o u cs z m g w = absurd (omega arith)
  part-reach b q (tree a k r) l h room n j o u cs z m g w =
      let d : ℕ = o - j in
      let s : ℕ = size_at t b in
      let es = old-size t b q a k r h in
      let v : Table = u ⧺ one_row d s a in
      let last : State = state (b + n) (o + n) (b + n - 1) (o + n - 1) (u ⧺ first_rows n (rows d (tree a k r))) cs in
      by_side n (suc (suc (count k)))
      (λ y.
      let opens : step t (state b o q j u cs) ≡ state (suc b) (suc o) b o v cs =
      step-far b o q j u cs (far_less b (b + n - 1) cs (omega arith) w) (omega arith)
      ∙ ap (λ (x : ℕ). state (suc b) (suc o) b o (u ⧺ one_row d s x) cs) (old_value t b q a k r h) in
      step_to t opens
      (by_place n 1 (λ x. absurd (omega arith))
      (λ x.
      subst (Reach t (state (suc b) (suc o) b o v cs))
      (state_eq (omega arith) (omega arith) (omega arith) (omega arith)
      (first_one u d s a n k r x es)) stop)
      (λ x.
      let e : suc o - o ≡ 1 = omega arith in
      subst (Reach t (state (suc b) (suc o) b o v cs))
      (state_eq (omega arith) (omega arith) (omega arith) (omega arith)
      (ap (λ (i : ℕ). v ⧺ first_rows (n - 1) (rows i k)) e
      ∙ first-inside u d s a (n - 1) n k r (omega arith) (omega arith) es))
      (part-reach (suc b) b k (omega arith) (old-kids t b q a k r h) (omega arith) (n - 1) o (suc o) v cs
      (omega arith) (omega arith) (good_opened g s a)
      (far_less (suc b + (n - 1) - 1) (b + n - 1) cs (omega arith) w)))))
      (λ y.
      let c : ℕ = suc (count k) in
      let f : Forest ℕ = tree a k none in
      let e : b + count f ≡ suc b + count k = omega arith in
      let o' : o + count f ≡ o + c = omega arith in
      reach_trans t
      (all_reach b q j o f u cs l (old-alone t b q a k r h) (omega arith) g
      (far_less (b + count f) (b + n - 1) cs (omega arith) w))
      (subst (λ (x : ℕ). Reach t (state x (o + count f) q j (u ⧺ rows d f) cs) last) (sym e)
      (subst (Reach t (state (suc b + count k) (o + count f) q j (u ⧺ rows d f) cs))
      (state_eq (omega arith) (omega arith) (omega arith) (omega arith)
      (first_beyond u d (o + count f - j) a (n - c) n k r (omega arith) (omega arith)))
      (part-reach (suc b + count k) q r (omega arith) (old-rest t b q a k r (omega arith) h) (omega arith) (n - c) j
      (o + count f) (u ⧺ rows d f) cs
      (omega arith) (omega arith) (good_pasted g f)
      (far_less (suc b + count k + (n - c) - 1) (b + n - 1) cs (omega arith) w)))))

-- ---- the line of open rows behind these rows
module _ {t u : Table} where
  pub line_all : {i q j : ℕ} (f : Forest ℕ) → Line t u i q j f → Line t u (i + count f) q j none
  line_all none l = line_at (omega arith) refl refl l
  line_all {i = i} (tree a k r) l =
      line_at (omega arith) refl refl (line_all {i = suc i + count k} r (line-next l))

  pub line-part : {b q j : ℕ} (f : Forest ℕ) (n o : ℕ) → Line t u b q j f → 0 < n → n ≤ count f → j < o
      → ((z x : ℕ) → x ≡ o + z → z < n → dist_at u x ≡ get_or (dists (o - j) f) z 0)
      → (g : Forest ℕ) × Line t u (b + n) (b + n - 1) (o + n - 1) g
  line-part none n o l z m s h = absurd (omega arith)
  line-part {b = b} {q = q} {j = j} (tree a k r) n o l z m s h =
      let c : ℕ = suc (count k) in
      let R : List ℕ = dists (o - j + c) r in
      by_side n (suc c)
      (λ y.
      let kids : Line t u (suc b) b o k = line_open l s (h 0 o (omega arith) z) in
      by_place n 1 (λ x. absurd (omega arith))
      (λ x. (k, line_at (omega arith) (omega arith) (omega arith) kids))
      (λ x.
      let e : suc o - o ≡ 1 = omega arith in
      let w = line-part {b = suc b} {q = b} {j = o} k (n - 1) (suc o) kids (omega arith) (omega arith) (omega arith)
      (λ i m v w.
      h (suc i) m (omega arith) (omega arith)
      ∙ (get_or-append (dists 1 k) R 0 i (omega (arith, length-dists 1 k))
      ∙ ap (λ (d : ℕ). get_or (dists d k) i 0) (sym e))) in
      (w.0, line_at (omega arith) (omega arith) (omega arith) w.1)))
      (λ y.
      let e : o + c - j ≡ o - j + c = omega arith in
      let w = line-part {b = suc b + count k} r (n - c) (o + c) (line-next l) (omega arith) (omega arith) (omega arith)
      (λ i m v w.
      h (suc (count k + i)) m (omega arith) (omega arith)
      ∙ (ap (λ (m : ℕ). get_or (dists 1 k ++ R) (m + i) 0) (sym (length-dists 1 k))
      ∙ (get_or-append-add (dists 1 k) R i 0
      ∙ ap (λ (d : ℕ). get_or (dists d r) i 0) (sym e)))) in
      (w.0, line_at (omega arith) (omega arith) (omega arith) w.1))
