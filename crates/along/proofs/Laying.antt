-- Numbers counted up, and numbers laid over a column from a row on, piece by piece.
-- Assumes nothing.
use Prim.Native.Nat.{ℕ, zero, suc, ◌+◌, ◌-◌, ◌≤◌, ◌<◌}
use native.Mathlib.Omega.{arith}
use mathlib.Core.Path.{◌≡◌, refl, sym, ap, ◌∙◌}
use mathlib.Core.List.{List, [], ◌∷◌, ◌++◌}
use lib.ListN.{length, take, drop, set, replicate, length-set, length-drop, length-replicate}
use lib.Seq.{length-take-le}
use borrow.Rule.Slice.PartMut.{put_mid}
use Rattle.std.proofs.Math.Seq.{take-suc-set}
use Rattle.along.specs.Rising.{rising}

-- ---- counted up
pub rising-length : (n k : ℕ) → length (rising n k) ≡ n
rising-length zero k = refl
rising-length (suc n) k = ap suc (rising-length n (suc k))

rising-more : (n k : ℕ) → rising (suc n) k ≡ rising n k ++ ((k + n) ∷ [])
rising-more zero k = ap (λ (y : ℕ). y ∷ []) (omega arith)
rising-more (suc n) k =
    let e : k + suc n ≡ suc k + n = omega arith in
    rw e (ap (λ (ns : List ℕ). k ∷ ns) (rising-more n (suc k)))

-- the first x numbers of u are counted up from k: one more, and all
module _ (u : List ℕ) (k x : ℕ) (h : take x u ≡ rising x k) where
  pub rising-on : x < length u → take (x + 1) (set u x (k + x)) ≡ rising (x + 1) k
  rising-on l =
      let on : x + 1 ≡ suc x = omega arith in
      rw (on, rising-more x k, take-suc-set) (ap (λ (ns : List ℕ). ns ++ ((k + x) ∷ [])) h)

-- ---- laid over a column
-- the column u with the numbers xs in it, from row a on
unfoldable pub laid : List ℕ → List ℕ → ℕ → List ℕ
laid [] u a = u
laid (x ∷ xs) u a = laid xs (set u a x) (suc a)

-- one piece after the other
pub laid-append : (xs ys u : List ℕ) (a : ℕ) → laid (xs ++ ys) u a ≡ laid ys (laid xs u a) (a + length xs)
unfolding laid
laid-append [] ys u a = ap (laid ys u) (omega arith)
laid-append (x ∷ xs) ys u a =
    laid-append xs ys (set u a x) (suc a) ∙ ap (laid ys (laid xs (set u a x) (suc a))) (omega arith)

pub laid-length : (xs u : List ℕ) (a : ℕ) → length (laid xs u a) ≡ length u
unfolding laid
laid-length [] u a = refl
laid-length (x ∷ xs) u a = laid-length xs (set u a x) (suc a) ∙ length-set u a x

-- from row 0 on: the numbers first, and the rows behind stay
laid-behind : (xs : List ℕ) (u : List ℕ) (b : ℕ) (a : ℕ) → laid xs (b ∷ u) (suc a) ≡ b ∷ laid xs u a
unfolding laid
laid-behind [] u b a = refl
laid-behind (x ∷ xs) u b a = laid-behind xs (set u a x) b (suc a)

pub laid_front : (xs u : List ℕ) → length xs ≤ length u → laid xs u 0 ≡ xs ++ drop (length xs) u
unfolding laid
laid_front [] u h = refl
laid_front (x ∷ xs) [] h = absurd (omega arith)
laid_front (x ∷ xs) (b ∷ u) h =
    laid-behind xs u x 0 ∙ ap (λ (ys : List ℕ). x ∷ ys) (laid_front xs u (omega arith))

-- written in a part of the column
pub laid_part : (xs u : List ℕ) (a k : ℕ) → length xs ≡ k → a + k ≤ length u → put_mid a k u xs ≡ laid xs u a
laid_part xs u zero k e h = rw (← e) (sym (laid_front xs u (omega arith)))
laid_part xs [] (suc a) k e h = absurd (omega arith)
laid_part xs (b ∷ u) (suc a) k e h =
    ap (λ (ys : List ℕ). b ∷ ys) (laid_part xs u a k e (omega arith)) ∙ sym (laid-behind xs u b a)

-- counted up, and filled with one number, from row a up to row e
module _ (u : List ℕ) (a e : ℕ) (h : a ≤ e) (l : e ≤ length u) where
  pub part-length : length (take (e - a) (drop a u)) ≡ e - a
  part-length = omega (arith, length-take-le (e - a) (drop a u), length-drop a u)

  -- the column is as long as before
  pub part-inside : (ys : List ℕ) {n : ℕ} → length ys ≡ length (take (e - a) (drop a u)) → n ≤ length u
      → n ≤ length (put_mid a (e - a) u ys)
  part-inside ys f m =
      let k : length ys ≡ e - a = omega (arith, part-length) in
      omega (arith, ap length (laid_part ys u a (e - a) k (omega arith)), laid-length ys u a)

  pub counted : {ys : List ℕ} (k : ℕ) → ys ≡ rising (length (take (e - a) (drop a u))) k
      → put_mid a (e - a) u ys ≡ laid (rising (e - a) k) u a
  counted k f = rw (f, part-length) (laid_part (rising (e - a) k) u a (e - a) (rising-length (e - a) k) (omega arith))

  pub filled : {ys : List ℕ} (n : ℕ) → ys ≡ replicate (length (take (e - a) (drop a u))) n
      → put_mid a (e - a) u ys ≡ laid (replicate (e - a) n) u a
  filled n f =
      rw (f, part-length) (laid_part (replicate (e - a) n) u a (e - a) (length-replicate (e - a) n) (omega arith))
