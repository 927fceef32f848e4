-- The merge of origins, followed record by record: what is still to come after each record, and which row stands where.
-- Assumes nothing.
use Prim.Native.Nat.{ℕ, zero, suc, ◌+◌, ◌-◌, ◌≤◌, ◌<◌}
use native.Mathlib.Omega.{arith}
use mathlib.Core.Path.{◌≡◌, sym, ap, ◌∙◌}
use mathlib.Core.Bool.{true, false}
use mathlib.Core.List.{List, [], ◌∷◌, ◌++◌, append_assoc, append-nil}
use lib.Dec.{T, eqb, eqb→eq}
use lib.ListN.{length, take, drop, get_or, length-drop}
use lib.Seq.{length-take-le}
use Rattle.plan.specs.Tree.{Forest}
use Rattle.plan.specs.Table.{Table, even, run}
use Rattle.plan.specs.Change.{rename, Change, act, location, lost}
use Rattle.plan.specs.Paint.{Origin, old, new, Painted, plan, origins}
use Rattle.plan.specs.Mapping.{row, fate, origin_at}
use Rattle.plan.proofs.Kit.{T_and}
use Rattle.plan.proofs.Trimmed.{gone-from, gone_to, trimmed}
use Rattle.plan.proofs.Merge.{onward, Chain}
use Rattle.plan.proofs.Mapping.{rows_of, length-rows, AllNew, arrives, track, fate-new, fate-other, fate_among}
use Rattle.plan.proofs.Origins.{plan-origins, take-rows}

-- ---- rows of one paint
module _ (o : ℕ → Origin) where
  rows_join : (i m k : ℕ) → rows_of o i (m + k) ≡ rows_of o i m ++ rows_of o (i + m) k
  rows_join i zero k =
      let e : 0 + k ≡ k = omega arith in
      let w : i + 0 ≡ i = omega arith in
      rw (e, w)
  rows_join i (suc m) k =
      let e : suc m + k ≡ suc (m + k) = omega arith in
      let w : i + suc m ≡ suc i + m = omega arith in
      rw (e, w) (ap (λ (os : List Origin). o i ∷ os) (rows_join (suc i) m k))

  pub at_rows : (i m x : ℕ) (rest : List Origin) → x < m → origin_at (rows_of o i m ++ rest) x ≡ o (i + x)
  at_rows i zero x rest h = absurd (omega arith)
  at_rows i (suc m) zero rest h = ap o (omega arith)
  at_rows i (suc m) (suc x) rest h = at_rows (suc i) m x rest (omega arith) ∙ ap o (omega arith)

  pub past-rows : (i m x : ℕ) (rest : List Origin) → m ≤ x → origin_at (rows_of o i m ++ rest) x ≡ origin_at rest (x - m)
  past-rows i zero x rest h = ap (origin_at rest) (omega arith)
  past-rows i (suc m) zero rest h = absurd (omega arith)
  past-rows i (suc m) (suc x) rest h =
      past-rows (suc i) m x rest (omega arith) ∙ ap (origin_at rest) (omega arith)

-- ---- old rows from q up to p, then a run of record k, then more
module _ (q p k n : ℕ) (rest : List Origin) where
  abbrev pub spliced : List Origin
  spliced = rows_of old q (p - q) ++ (rows_of (new k) 0 n ++ rest)

  -- which row stands at x
  pub at_before : (x : ℕ) → x < p - q → origin_at spliced x ≡ old (q + x)
  at_before x l = at_rows old q (p - q) x (rows_of (new k) 0 n ++ rest) l

  pub at-run : (x : ℕ) → p - q ≤ x → x < p - q + n → origin_at spliced x ≡ new k (x - (p - q))
  at-run x l m =
      past-rows old q (p - q) x (rows_of (new k) 0 n ++ rest) l
      ∙ (at_rows (new k) 0 n (x - (p - q)) rest (omega arith) ∙ ap (new k) (omega arith))

  -- what becomes of the old row x, where the next new row is j
  all_new : (y m : ℕ) → AllNew (rows_of (new k) y m)
  all_new y zero = tt
  all_new y (suc m) = all_new (suc y) m

  pub fate-before : (j x : ℕ) → q ≤ x → x < p → fate spliced j x ≡ row (j + (x - q))
  fate-before j x l m = fate_among q (p - q) (rows_of (new k) 0 n ++ rest) j x l (omega arith)

  pub fate-behind : (j x : ℕ) → q ≤ p → p ≤ x → fate spliced j x ≡ fate rest (j + (p - q) + n) x
  fate-behind j x l m =
      fate-other q (p - q) (rows_of (new k) 0 n ++ rest) j x (λ y u v e. omega arith)
      ∙ (fate-new (rows_of (new k) 0 n) rest (j + (p - q)) x (all_new 0 n)
      ∙ ap (λ (z : ℕ). fate rest (j + (p - q) + z) x) (length-rows (new k) 0 n))

-- nothing but old rows
pub at_last : (q n x : ℕ) → x < n - q → origin_at (rows_of old q (n - q)) x ≡ old (q + x)
at_last q n x l =
    ap (λ (os : List Origin). origin_at os x) (sym (append-nil (rows_of old q (n - q)))) ∙ at_rows old q (n - q) x [] l

pub fate-last : (q n j x : ℕ) → q ≤ x → x < n → fate (rows_of old q (n - q)) j x ≡ row (j + (x - q))
fate-last q n j x l m =
    ap (λ (os : List Origin). fate os j x) (sym (append-nil (rows_of old q (n - q))))
    ∙ fate_among q (n - q) [] j x l (omega arith)

module _ (t : Forest Painted) where
  -- up to a row that no change reaches across
  track_front : (q m n : ℕ) (cs : List (Change Painted)) → q ≤ m → Chain t m n cs
      → track t q n cs ≡ rows_of old q (m - q) ++ track t m n cs
  track_front q m n [] h v =
      let e : n - q ≡ m - q + (n - m) = omega arith in
      let w : q + (m - q) ≡ m = omega arith in
      rw (e, rows_join old q (m - q) (n - m), w)
  track_front q m n (c ∷ cs) h v =
      let p : ℕ = location c in
      let e : p - q ≡ m - q + (p - m) = omega (arith, v.0) in
      let w : q + (m - q) ≡ m = omega arith in
      rw (e, rows_join old q (m - q) (p - m), w)
      (append_assoc (rows_of old q (m - q)) (rows_of old m (p - m)) (arrives t c ++ track t (onward t c) n cs))

  -- a rename takes nothing away and brings nothing
  pub track_renamed : (q n p : ℕ) (h : Painted → Painted) (cs : List (Change Painted)) → q ≤ p → Chain t (suc p) n cs
      → track t q n (act p (rename h) ∷ cs) ≡ track t q n cs
  track_renamed q n p h cs l v =
      let e : suc p - q ≡ p - q + 1 = omega arith in
      let w : q + (p - q) ≡ p = omega arith in
      sym
      (track_front q (suc p) n cs (omega arith) v
      ∙ (rw (e, rows_join old q (p - q) 1, w)
      (append_assoc (rows_of old q (p - q)) (old p ∷ []) (track t (suc p) n cs))))

  -- what is still to come, where the old rows go on at q and the rows from a up to b are gone
  abbrev pub ahead : (q n a b : ℕ) → List (Change Painted) → List Origin
  ahead q n a b cs = track t q n (trimmed t a b cs)

  pub lost_dropped : (a b : ℕ) (c : Change Painted) (cs : List (Change Painted)) → lost a b c ≡ true
      → trimmed t a b (c ∷ cs) ≡ trimmed t a b cs
  unfolding trimmed
  lost_dropped a b c cs e = rw e

  pub kept-taken : (a b : ℕ) (c : Change Painted) (cs : List (Change Painted)) → lost a b c ≡ false
      → trimmed t a b (c ∷ cs) ≡ c ∷ trimmed t (gone-from t c) (gone_to t c) cs
  unfolding trimmed
  kept-taken a b c cs e = rw e

-- ---- the run of a record
-- as many rows as the size at its start says, where it ends within the insertions
pub run-rows : (k : ℕ) (i : Table) (f : ℕ) → T (even i) → f + get_or i.size f 0 ≤ length i.size
    → origins (plan (new k) (run i f)) ≡ rows_of (new k) 0 (get_or i.size f 0)
unfolding even run
run-rows k i f h l =
    let w = T_and (eqb (length i.dist) (length i.size)) (eqb (length i.value) (length i.size)) h in
    let e : length i.value ≡ length i.size = eqb→eq (length i.value) (length i.size) w.1 in
    let n : ℕ = get_or i.size f 0 in
    let s : length (take n (drop f i.size)) ≡ n =
    length-take-le n (drop f i.size) (omega (arith, length-drop f i.size)) in
    let v : length (take n (drop f i.value)) ≡ n =
    length-take-le n (drop f i.value) (omega (arith, length-drop f i.value)) in
    plan-origins (new k) (run i f) ∙ rw (s, v) (take-rows (new k) n 0 n (omega arith))
