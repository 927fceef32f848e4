-- Sums over the rows before k: of a function (`total`), and of 1 to k (`steps`).
-- Assumes nothing.
use Rattle.std.proofs.Common.{◌≡◌, ℕ, zero, suc, ◌+◌, ◌*◌, ◌<◌, ◌≤◌, sym, refl, ap, add-one, arith}
use Rattle.plan.proofs.Kit.{by_place}

unfoldable pub total : (ℕ → ℕ) → ℕ → ℕ
total f zero = 0
total f (suc k) = total f k + f k

unfoldable pub steps : ℕ → ℕ
steps zero = 0
steps (suc k) = steps k + suc k

pub steps_twice : (k : ℕ) → steps k + steps k ≡ k * (k + 1)
unfolding steps
steps_twice zero = refl
steps_twice (suc k) = omega (arith, steps_twice k)

none_before : (k : ℕ) → k ≤ 0 → k ≡ 0
none_before k l = omega arith

module _ (f : ℕ → ℕ) where
  pub total_next : (k : ℕ) → total f (k + 1) ≡ total f k + f k
  unfolding total
  total_next k = rw add-one refl

  pub total_up : (k m : ℕ) → k ≤ m → total f k ≤ total f m
  unfolding total
  total_up k zero l = omega (arith, ap (total f) (none_before k l))
  total_up k (suc m) l =
      by_place k (suc m) (λ i. omega (arith, total_up k m (omega arith))) (λ e. omega (arith, ap (total f) e))
      (λ i. absurd (omega arith))

  -- with one more row, between
  pub total_with : (k z m : ℕ) → k ≤ z → z < m → total f k + f z ≤ total f m
  unfolding total
  total_with k z zero u v = absurd (omega arith)
  total_with k z (suc m) u v =
      by_place z m (λ l. omega (arith, total_with k z m u l)) (λ e. omega (arith, ap f e, total_up k m (omega arith)))
      (λ l. absurd (omega arith))

  -- with rows that add nothing
  pub total_same : (k m : ℕ) → k ≤ m → ((z : ℕ) → k ≤ z → z < m → f z ≡ 0) → total f m ≡ total f k
  unfolding total
  total_same k zero l h = ap (total f) (sym (none_before k l))
  total_same k (suc m) l h =
      by_place k (suc m)
      (λ i. omega (arith, total_same k m (omega arith) (λ z u v. h z u (omega arith)), h m (omega arith) (omega arith)))
      (λ e. ap (total f) (sym e)) (λ i. absurd (omega arith))

pub total_plus : (f g h : ℕ → ℕ) (m : ℕ) → ((z : ℕ) → h z ≡ f z + g z) → total h m ≡ total f m + total g m
unfolding total
total_plus f g h zero e = refl
total_plus f g h (suc m) e = omega (arith, total_plus f g h m e, e m)

pub total_ap : (f g : ℕ → ℕ) (m : ℕ) → ((z : ℕ) → z < m → f z ≡ g z) → total f m ≡ total g m
unfolding total
total_ap f g zero e = refl
total_ap f g (suc m) e = omega (arith, total_ap f g m (λ z l. e z (omega arith)), e m (omega arith))

-- a sum q of parts c that are each at least those of 1 to n: it is that of 1 to n exactly where each part is
module _ (q c : ℕ → ℕ) (n : ℕ) (none : q 0 ≡ 0) (next : (k : ℕ) → q (suc k) ≡ q k + c k)
    (low : (k : ℕ) → k < n → k + 1 ≤ c k) where
  least : (k : ℕ) → k ≤ n → steps k ≤ q k
  unfolding steps
  least zero l = omega arith
  least (suc k) l = omega (arith, least k (omega arith), next k, low k (omega arith))

  apart : (k m : ℕ) → k ≤ m → m ≤ n → q k + steps m ≤ q m + steps k
  unfolding steps
  apart k zero l u = omega (arith, ap q (none_before k l), ap steps (none_before k l))
  apart k (suc m) l u =
      by_place k (suc m) (λ i. omega (arith, apart k m (omega arith) (omega arith), next m, low m (omega arith)))
      (λ e. omega (arith, ap q e, ap steps e)) (λ i. absurd (omega arith))

  pub tight : q n ≡ steps n → (k : ℕ) → k < n → c k ≡ k + 1
  unfolding steps
  tight e k l =
      omega (
        arith,
        least k (omega arith),
        apart (suc k) n l (omega arith),
        least (suc k) l,
        apart k n (omega arith) (omega arith),
        next k,
      )

  pub most : ((k : ℕ) → k < n → c k ≤ k + 1) → q n ≡ steps n
  unfolding steps
  most high = go n (omega arith)
    where
      go : (k : ℕ) → k ≤ n → q k ≡ steps k
      go zero l = none
      go (suc k) l = omega (arith, go k (omega arith), next k, low k l, high k l)
