-- The sum test: rows that each fit into a row before them are a sound table's exactly where the sum of distance times
-- size is that of 1 to n. What covers row k, each covering row counted by its distance, adds up to at least k + 1, and
-- to just that where only the rows that k lies in cover it.
-- Assumes nothing.
use Rattle.std.proofs.Common.{◌≡◌, ℕ, zero, suc, ◌+◌, ◌-◌, ◌*◌, ◌<◌, ◌≤◌, min, ◌↔◌, List, length, sym, ap, ◌∙◌, arith}
use Rattle.plan.specs.Axes.{cell}
use Rattle.plan.proofs.Kit.{by_place}
use Rattle.table.specs.Rows.{Fine, Row, Rows, Rooted}
use Rattle.table.specs.Shape.{Shaped}
use Rattle.table.proofs.Parents.{shape_lengths, shape_rows}
use Rattle.table.proofs.Prefix.{rows_shape}
use Rattle.table.proofs.Totals.{total, total_next, total_up, total_with, total_same, total_plus, total_ap, steps, tight, most}

-- row r fits into some row before it
pub record Near (s d : ℕ → ℕ) (r : ℕ) : Type 0 where
  pub parent : ℕ
  pub before : parent < r
  pub fine : Fine s d r parent

-- every row before r does, and the root is the whole table's
pub record Nears (s d : ℕ → ℕ) (n r : ℕ) : Type 0 where
  pub root-dist : d 0 ≡ 1
  pub root-size : s 0 ≡ n
  pub near : (z : ℕ) → 0 < z → z < r → Near s d z

-- distance times size
abbrev pub weight : (ℕ → ℕ) → (ℕ → ℕ) → ℕ → ℕ
weight s d a = d a * s a

-- no row ends past the last
row_ends : (s d : ℕ → ℕ) (n r : ℕ) → Nears s d n r → (fuel z : ℕ) → z ≤ fuel → z < r → z + s z ≤ n
row_ends s d n r h zero z f l = let e : z ≡ 0 = omega arith in omega (arith, ap s e, h.root-size)
row_ends s d n r h (suc fuel) z f l =
    by_place 0 z
    (λ i. let w : Near s d z = h.near z i l in
    omega (
      arith,
      w.fine.inside,
      w.before,
      row_ends s d n r h fuel w.parent (omega (arith, w.before)) (omega (arith, w.before)),
    ))
    (λ e. omega (arith, ap s e, h.root-size))
    (λ i. absurd (omega arith))

module _ (s d : ℕ → ℕ) where
  -- how many rows of a are before k, and whether k is one
  part : ℕ → ℕ → ℕ
  part k a = min (s a) (k - a)

  bit : ℕ → ℕ → ℕ
  bit k a = part (suc k) a - part k a

  -- the distance of a, if a covers k
  cover : ℕ → ℕ → ℕ
  cover k a = d a * bit k a

  cover_in : (k a : ℕ) → a ≤ k → k < a + s a → cover k a ≡ d a
  unfolding part bit cover
  cover_in k a u v = let e : bit k a ≡ 1 = omega arith in omega (arith, ap (λ (b : ℕ). d a * b) e)

  cover_past : (k a : ℕ) → a + s a ≤ k → cover k a ≡ 0
  unfolding part bit cover
  cover_past k a u = let e : bit k a ≡ 0 = omega arith in omega (arith, ap (λ (b : ℕ). d a * b) e)

  cover_later : (k a : ℕ) → k < a → cover k a ≡ 0
  unfolding part bit cover
  cover_later k a u = let e : bit k a ≡ 0 = omega arith in omega (arith, ap (λ (b : ℕ). d a * b) e)

  -- the sum of distance times rows before k
  filled : ℕ → ℕ → ℕ
  filled n k = total (λ a. d a * part k a) n

  filled_none : (n : ℕ) → filled n 0 ≡ 0
  unfolding part filled total
  filled_none n =
      total_same (λ a. d a * part 0 a) 0 n (omega arith)
      (λ z u v. let e : part 0 z ≡ 0 = omega arith in omega (arith, ap (λ (b : ℕ). d z * b) e))

  filled_next : (n k : ℕ) → filled n (suc k) ≡ filled n k + total (cover k) n
  unfolding part bit cover filled
  filled_next n k =
      total_plus (λ a. d a * part k a) (cover k) (λ a. d a * part (suc k) a) n
      (λ a. let e : part (suc k) a ≡ part k a + bit k a = omega arith in omega (arith, ap (λ (b : ℕ). d a * b) e))

  filled_all : (n : ℕ) → ((z : ℕ) → z < n → z + s z ≤ n) → filled n n ≡ total (weight s d) n
  unfolding part filled
  filled_all n h =
      total_ap (λ a. d a * part n a) (weight s d) n
      (λ z l. let e : part n z ≡ s z = omega (arith, h z l) in omega (arith, ap (λ (b : ℕ). d z * b) e))

  module _ (n : ℕ) (some : 1 ≤ n) (h : Nears s d n n) where
    first_covers : (x k : ℕ) → x ≡ 0 → x ≤ k → k < x + s x → x + 1 ≤ total (cover k) (x + 1)
    first_covers x k e u v =
        omega (
          arith,
          ap d e,
          h.root-dist,
          cover_in k x u v,
          total_with (cover k) 0 x (x + 1) (omega arith) (omega arith),
        )

    -- row x, which k is in, and the rows that it is in
    chain_covers : (fuel x k : ℕ) → x ≤ fuel → x ≤ k → x < n → k < x + s x → x + 1 ≤ total (cover k) (x + 1)
    chain_covers zero x k f u l v = first_covers x k (omega arith) u v
    chain_covers (suc fuel) x k f u l v =
        by_place 0 x
        (λ i. let w : Near s d x = h.near x i l in
        let q : ℕ = w.parent in
        let c : q + 1 ≤ total (cover k) (q + 1) =
        chain_covers fuel q k (omega (arith, w.before)) (omega (arith, w.before)) (omega (arith, w.before))
        (omega (arith, w.fine.inside)) in
        omega (
          arith,
          w.before,
          w.fine.far,
          cover_in k x u v,
          total_with (cover k) (q + 1) x (x + 1) (omega (arith, w.before)) (omega arith),
        ))
        (λ e. first_covers x k (sym e) u v)
        (λ i. absurd (omega arith))

    some-rows : (k : ℕ) → k < n → 1 ≤ s k
    some-rows k l =
        by_place 0 k (λ i. (h.near k i l).fine.some) (λ e. omega (arith, ap s e, h.root-size))
        (λ i. absurd (omega arith))

    covers_least : (k : ℕ) → k < n → k + 1 ≤ total (cover k) n
    covers_least k l =
        omega (
          arith,
          chain_covers k k k (omega arith) (omega arith) l (omega (arith, some-rows k l)),
          total_up (cover k) (k + 1) n (omega arith),
        )

    -- a row between r and the row that it fits into does not reach r, where what covers r adds up to no more than r + 1
    near_closed : (r q z : ℕ) → r < n → q < r → Fine s d r q → total (cover r) n ≡ r + 1 → q < z → z < r → z + s z ≤ r
    near_closed r q z l b f e u v =
        by_place r (z + s z)
        (λ i. let w : Near s d z = h.near z (omega arith) (omega arith) in
        absurd (omega (
          arith,
          e,
          f.far,
          w.fine.far,
          w.before,
          cover_in r r (omega arith) (omega (arith, f.some)),
          cover_in r z (omega arith) i,
          chain_covers q q r (omega arith) (omega arith) (omega arith) (omega (arith, f.inside, f.some)),
          total_with (cover r) (q + 1) z r (omega arith) v,
          total_with (cover r) r r n (omega arith) l,
        )))
        (λ i. omega arith)
        (λ i. omega arith)

    filled_weight : filled n n ≡ total (weight s d) n
    filled_weight = filled_all n (λ z i. row_ends s d n n h z z (omega arith) i)

    sum_rows : total (weight s d) n ≡ steps n → Rows s d n n
    sum_rows e =
        record {
          root-dist = h.root-dist;
          root-size = h.root-size;
          row = λ r u l.
              let w : Near s d r = h.near r u l in
              let t : total (cover r) n ≡ r + 1 =
              tight (filled n) (λ k. total (cover k) n) n (filled_none n) (filled_next n) covers_least
              (filled_weight ∙ e) r l in
              record {
                parent = w.parent;
                inner = record {
                  before = w.before;
                  past = omega (arith, w.fine.inside, w.fine.some);
                  closed = λ z i j. near_closed r w.parent z l w.before w.fine t i j;
                };
                fine = w.fine;
              };
        }

    covers_sum : ((k : ℕ) → k < n → total (cover k) n ≤ k + 1) → total (weight s d) n ≡ steps n
    covers_sum high =
        sym filled_weight
        ∙ most (filled n) (λ k. total (cover k) n) n (filled_none n) (filled_next n) covers_least high

  module _ (n : ℕ) (some : 1 ≤ n) (h : Rows s d n n) where
    rows_near : Nears s d n n
    rows_near =
        record {
          root-dist = h.root-dist;
          root-size = h.root-size;
          near = λ z u l.
              let w : Row s d z = h.row z u l in
              record { parent = w.parent; before = w.inner.before; fine = w.fine };
        }

    first_only : (x k : ℕ) → x ≡ 0 → k < x + s x → total (cover k) (x + 1) ≤ x + 1
    unfolding total
    first_only x k e v =
        omega (
          arith,
          total_next (cover k) x,
          cover_in k x (omega arith) v,
          ap (total (cover k)) e,
          ap d e,
          h.root-dist,
        )

    -- no row before x but those that it is in covers k
    chain_only : (fuel x k : ℕ) → x ≤ fuel → x ≤ k → x < n → k < x + s x → total (cover k) (x + 1) ≤ x + 1
    chain_only zero x k f u l v = first_only x k (omega arith) v
    chain_only (suc fuel) x k f u l v =
        by_place 0 x
        (λ i. let w : Row s d x = h.row x i l in
        let q : ℕ = w.parent in
        let b : q < x = w.inner.before in
        omega (
          arith,
          w.fine.far,
          cover_in k x u v,
          total_next (cover k) x,
          chain_only fuel q k (omega arith) (omega arith) (omega arith) (omega (arith, w.fine.inside)),
          total_same (cover k) (q + 1) x (omega arith)
              (λ z a j. cover_past k z (omega (arith, w.inner.closed z (omega arith) j))),
        ))
        (λ e. first_only x k (sym e) v)
        (λ i. absurd (omega arith))

    covers_most : (k : ℕ) → k < n → total (cover k) n ≤ k + 1
    covers_most k l =
        omega (
          arith,
          chain_only k k k (omega arith) (omega arith) l (omega (arith, some-rows n some rows_near k l)),
          total_same (cover k) (k + 1) n (omega arith) (λ z a b. cover_later k z (omega arith)),
        )

    rows-sum : total (weight s d) n ≡ steps n
    rows-sum = covers_sum n some rows_near covers_most

-- the test, in whole
pub record Summed (D S : List ℕ) : Type 0 where
  pub rooted : Rooted D S
  pub nears : Nears (cell S) (cell D) (length S) (length S)
  pub sum : total (weight (cell S) (cell D)) (length S) ≡ steps (length S)

pub sum-test : (D S : List ℕ) → Summed D S ↔ Shaped D S
sum-test D S = (
  (λ h. rows_shape D S h.rooted (sum_rows (cell S) (cell D) (length S) h.rooted.some h.nears h.sum)),
  (λ h.
      let l = shape_lengths D S h in
      let r : Rows (cell S) (cell D) (length S) (length S) = shape_rows D S h in
      record {
        rooted = record {
          same = l.0;
          some = l.1;
          few = l.2;
          root-dist = r.root-dist;
          root-size = r.root-size;
        };
        nears = rows_near (cell S) (cell D) (length S) l.1 r;
        sum = rows-sum (cell S) (cell D) (length S) l.1 r;
      }),
)

-- a row of a sound table fits into one before it
pub shape_near : (D S : List ℕ) (r : ℕ) → 0 < r → r < length S → Shaped D S → Near (cell S) (cell D) r
shape_near D S r u l h = ((sum-test D S).1 h).nears.near r u l
