-- A copy grows number by number; so does a copy of distances that lead to another row.
-- Assumes nothing.
use Prim.Native.Nat.{ℕ, zero, suc, ◌+◌, ◌-◌, ◌≤◌, ◌<◌}
use native.Mathlib.Omega.{arith}
use native.Mathlib.Numerals.{add-one}
use native.Mathlib.Nat.{zero-add}
use mathlib.Core.Path.{◌≡◌, refl, sym, ap, ◌∙◌}
use mathlib.Core.List.{List, [], ◌∷◌, ◌++◌}
use lib.ListN.{length, get_or, set, take, drop, length-drop, length-set}
use lib.Seq.{paste-zero, paste-suc, get_or-drop, get_or-take, get_or-append-add, get_or-set_same, get_or-set_other, ext_get_or, take-take, take_at, take-set-le, drop-set-lt, drop-drop, length-take-le, take-paste, drop-paste, length-paste}
use borrow.Author.Tests.{lt-ltb, le-ltb}
use Rattle.pass_moves.specs.Written.{row, out, copied, hung, rehung, Unread, Ahead, Revalues, Revalued}
use Rattle.pass_moves.specs.declared.Cursor.{Cursor}
use Rattle.plan.proofs.Kit.{by_place, by_side}

pub copy_none : (c u : List ℕ) (f at : ℕ) → u ≡ copied u at c f 0
unfolding copied
copy_none c u f at = paste-zero u at (drop f c)

pub copy_more : (c u v : List ℕ) (f at j n : ℕ) → f + n ≤ length c → at + n ≤ length v → j < n
    → u ≡ copied v at c f j → set u (at + j) (get_or c (f + j) 0) ≡ copied v at c f (j + 1)
unfolding copied
copy_more c u v f at j n h l m e =
    rw (e, ← get_or-drop f c j 0, add-one j)
    (paste-suc v at (drop f c) j 0 (omega arith) (omega (arith, length-drop f c)))

-- ---- distances that lead out of a part
pub hung-more : (d x j : ℕ) → j < x → hung d j x ≡ d + j
hung-more d x j h = rw (lt-ltb j x h)

pub hung_else : (d x j : ℕ) → x ≤ j → hung d j x ≡ x
hung_else d x j h = rw (le-ltb j x h)

length-rehung : (d i : ℕ) (c : List ℕ) → length (rehung d i c) ≡ length c
unfolding rehung
length-rehung d i [] = refl
length-rehung d i (x ∷ c) = ap suc (length-rehung d (suc i) c)

rehung-at : (d i : ℕ) (c : List ℕ) (j : ℕ) → j < length c → get_or (rehung d i c) j 0 ≡ hung d (i + j) (get_or c j 0)
unfolding rehung
rehung-at d i [] j h = absurd (omega arith)
rehung-at d i (x ∷ c) zero h = ap (λ (k : ℕ). hung d k x) (omega arith)
rehung-at d i (x ∷ c) (suc j) h =
    rehung-at d (suc i) c j (omega arith) ∙ ap (λ (k : ℕ). hung d k (get_or c j 0)) (omega arith)

pub rehung-more : (c u v : List ℕ) (d f at j n k x : ℕ) → f + n ≤ length c → at + n ≤ length v → j < n
    → u ≡ copied v at (rehung d 0 (drop f c)) 0 j → k ≡ j → x ≡ hung d k (get_or c (f + j) 0)
    → set u (at + j) x ≡ copied v at (rehung d 0 (drop f c)) 0 (j + 1)
rehung-more c u v d f at j n k x h l m e ek ex =
    let long = length-drop f c in
    let w : get_or (rehung d 0 (drop f c)) (0 + j) 0 ≡ hung d j (get_or c (f + j) 0) =
    ap (λ (i : ℕ). get_or (rehung d 0 (drop f c)) i 0) (omega arith)
    ∙ (rehung-at d 0 (drop f c) j (omega arith)
    ∙ ((λ y. hung d (zero-add j y) (get_or-drop f c j 0 y)))) in
    ap (λ (y : ℕ). set u (at + j) y) (ex ∙ (ap (λ (i : ℕ). hung d i (get_or c (f + j) 0)) ek ∙ sym w))
    ∙ copy_more (rehung d 0 (drop f c)) u v 0 at j n (omega (arith, length-rehung d 0 (drop f c))) l m e

-- ---- what a copy holds
module _ (u : List ℕ) (at : ℕ) (c : List ℕ) (f n : ℕ) (h : at + n ≤ length u) (l : f + n ≤ length c) where
  long-part : n ≤ length (drop f c)
  long-part = omega (arith, length-drop f c)

  pub length-copied : length (copied u at c f n) ≡ length u
  unfolding copied
  length-copied = length-paste u at (drop f c) n h long-part

  pub first-copied : take at (copied u at c f n) ≡ take at u
  unfolding copied
  first-copied =
      sym (take-take at (at + n) (copied u at c f n) (omega arith))
      ∙ (ap (take at) (take-paste u at (drop f c) n (omega arith) long-part)
      ∙ take_at (take at u) (take n (drop f c)) at (length-take-le at u (omega arith)))

  pub later-copied : drop (at + n) (copied u at c f n) ≡ drop (at + n) u
  unfolding copied
  later-copied = drop-paste u at (drop f c) n (omega arith) long-part

  pub copied-before : (i : ℕ) → i < at → get_or (copied u at c f n) i 0 ≡ get_or u i 0
  copied-before i m =
      sym (get_or-take at (copied u at c f n) i 0 m)
      ∙ (ap (λ (x : List ℕ). get_or x i 0) first-copied ∙ get_or-take at u i 0 m)

  pub copied_at : (i j : ℕ) → i ≡ at + j → j < n → get_or (copied u at c f n) i 0 ≡ get_or c (f + j) 0
  unfolding copied
  copied_at i j e m =
      let x = length-take-le at u (omega arith) in
      sym (get_or-take (at + n) (copied u at c f n) i 0 (omega arith))
      ∙ (ap (λ (y : List ℕ). get_or y i 0) (take-paste u at (drop f c) n (omega arith) long-part)
      ∙ (ap (λ (y : ℕ). get_or (take at u ++ take n (drop f c)) y 0) (omega arith)
      ∙ (get_or-append-add (take at u) (take n (drop f c)) j 0
      ∙ (get_or-take n (drop f c) j 0 m ∙ get_or-drop f c j 0))))

  pub copied_behind : (i j : ℕ) → i ≡ at + n + j → get_or (copied u at c f n) i 0 ≡ get_or u i 0
  copied_behind i j e =
      ap (λ (y : ℕ). get_or (copied u at c f n) y 0) e
      ∙ (sym (get_or-drop (at + n) (copied u at c f n) j 0)
      ∙ (ap (λ (y : List ℕ). get_or y j 0) later-copied
      ∙ (get_or-drop (at + n) u j 0 ∙ ap (λ (y : ℕ). get_or u y 0) (sym e))))

-- ---- values ahead: what is missing is copied, and so all are there
module _ {l value u : List ℕ} {c : Cursor} (A : Ahead l value u c) (e r : ℕ) (U : Unread (row c) c.valued.0 e r)
    (h : out c + (e - row c) ≤ length u) (m : e ≤ length value) where
  abbrev part : List ℕ
  part = copied u (out c + (r - row c)) value r (e - r)

  part-there : (k : ℕ) → row c ≤ k → k < e
      → get_or (copied u (out c + (r - row c)) value r (e - r)) (out c + (k - row c)) 0 ≡ get_or l k 0
  part-there k n w =
      let b = U.low in
      let d = U.high in
      let at : ℕ = out c + (r - row c) in
      by_side k r
      (λ z.
      copied-before u at value r (e - r) (omega arith) (omega arith) (out c + (k - row c)) (omega arith)
      ∙ A.there k n (omega (arith, U.there (omega arith))))
      (λ z.
      copied_at u at value r (e - r) (omega arith) (omega arith) (out c + (k - row c)) (k - r) (omega arith)
      (omega arith)
      ∙ (ap (λ (y : ℕ). get_or value y 0) (omega arith) ∙ sym (A.later k (omega (arith, U.missing (omega arith))))))

  pub copy_ahead : row c ≤ e
      → copied u (out c + (r - row c)) value r (e - r) ≡ copied u (out c) l (row c) (e - row c)
  copy_ahead z =
      let b = U.low in
      let d = U.high in
      let at : ℕ = out c + (r - row c) in
      let n : ℕ = e - row c in
      let y = A.long in
      let x = length-copied u at value r (e - r) (omega arith) (omega arith) in
      ext_get_or 0 _ _ (x ∙ sym (length-copied u (out c) l (row c) n h (omega arith)))
      (λ i w.
      by_side i (out c)
      (λ k.
      copied-before u at value r (e - r) (omega arith) (omega arith) i (omega arith)
      ∙ sym (copied-before u (out c) l (row c) n h (omega arith) i k))
      (λ k.
      by_side i (out c + n)
      (λ o.
      ap (λ (q : ℕ). get_or part q 0) (omega arith)
      ∙ (part-there (row c + (i - out c)) (omega arith) (omega arith)
      ∙ sym (copied_at u (out c) l (row c) n h (omega arith) i (i - out c) (omega arith) (omega arith))))
      (λ o.
      copied_behind u at value r (e - r) (omega arith) (omega arith) i (i - (out c + n)) (omega arith)
      ∙ sym (copied_behind u (out c) l (row c) n h (omega arith) i (i - (out c + n)) (omega arith)))))

-- ---- a value is written ahead
module _ {value u : List ℕ} {c : Cursor} {p r : ℕ} (U : Unread (row c) c.valued.0 p r)
    (R : Revalues value u c p) where
  abbrev at : ℕ
  at = out c + (r - row c)

  abbrev copy : List ℕ
  copy = copied u (out c + (r - row c)) value r (p - r)

  abbrev place : ℕ
  place = out c + (p - row c)

  room : out c + (r - row c) + (p - r) ≤ length u
  room = omega (arith, U.low, U.high, R.room)

  there : r + (p - r) ≤ length value
  there = omega (arith, U.high, R.there)

  copy_long : length (copied u (out c + (r - row c)) value r (p - r)) ≡ length u
  copy_long = length-copied u at value r (p - r) room there

  pub revalued : (a : ℕ)
      → Revalued value u c p a (set (copied u (out c + (r - row c)) value r (p - r)) (out c + (p - row c)) a)
  revalued a =
      let n : ℕ = out c + (p + 1 - row c) in
      let b = R.ahead in
      let m = R.room in
      let y = copy_long in
      let low = U.low in
      let high = U.high in
      let k : at + (p - r) ≡ place = omega arith in
      let e : place + 1 ≡ n = omega arith in
      let f : drop place copy ≡ drop place u =
      ap (λ (x : ℕ). drop x copy) (sym k)
      ∙ (later-copied u at value r (p - r) room there ∙ ap (λ (x : ℕ). drop x u) k) in
      record {
        ahead =
            λ l A z.
            let long = A.long in
            let t = R.there in
            record {
              long = length-set l p a ∙ A.long;
              later =
                  λ k w.
                  get_or-set_other l p k a 0 (λ i. omega arith) ∙ A.later k (omega arith);
              there =
                  λ k v w.
                  by_place k p
                  (λ i.
                  get_or-set_other copy place (out c + (k - row c)) a 0 (λ j. omega arith)
                  ∙ (part-there A p r U (omega arith) (omega arith) k v i
                  ∙ sym (get_or-set_other l p k a 0 (λ j. omega arith))))
                  (λ i.
                  ap (λ (x : ℕ). get_or (set copy place a) x 0) (omega arith)
                  ∙ (get_or-set_same copy place a 0 (omega arith)
                  ∙ (sym (get_or-set_same l p a 0 (omega arith)) ∙ ap (λ (x : ℕ). get_or (set l p a) x 0) (sym i))))
                  (λ i. absurd (omega arith));
            };
        first =
            take-set-le (out c) copy place a (omega arith)
            ∙ (sym (take-take (out c) at copy (omega arith))
            ∙ (ap (take (out c)) (first-copied u at value r (p - r) room there)
            ∙ take-take (out c) at u (omega arith)));
        later =
            drop-set-lt n copy place a (omega arith)
            ∙ (ap (λ (x : ℕ). drop x copy) (sym e)
            ∙ (sym (drop-drop 1 place copy)
            ∙ (ap (drop 1) f ∙ (drop-drop 1 place u ∙ ap (λ (x : ℕ). drop x u) e))));
        long = length-set copy place a ∙ copy_long;
      }
