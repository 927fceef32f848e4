-- One step of the climb, and the step to the next row.
-- Assumes nothing.
use Rattle.std.proofs.Common.{◌≡◌, ℕ, ◌+◌, ◌<◌, List, length, sym, ap, subst, arith}
use Rattle.plan.specs.Axes.{cell}
use Rattle.plan.proofs.Kit.{by_place}
use Rattle.table.specs.Rows.{Open, Inner, Fine, Row, Rows, Ready}

-- row x, which ends at r, has a parent q, which is open at r too
pub record Up (s d : ℕ → ℕ) (r x : ℕ) : Type 0 where
  pub to : ℕ
  pub far : to + d x ≡ x
  pub less : to < x
  pub there : Open s r to

module _ (s d : ℕ → ℕ) where
  pub above : (r x : ℕ) → Open s r x → x + s x ≡ r → Row s d x → Up s d r x
  above r x o e w =
      record {
        to = w.parent;
        far = w.fine.far;
        less = w.inner.before;
        there = record {
          before = omega (arith, w.inner.before, o.before);
          reach = omega (arith, w.fine.inside);
          closed = λ z u v.
              by_place z x (λ i. omega (arith, w.inner.closed z u i, o.before)) (λ i. omega (arith, ap s i))
              (λ i. o.closed z i v);
        };
      }

pub not_root : (s : ℕ → ℕ) (n r x : ℕ) → r < n → s 0 ≡ n → x + s x ≡ r → 0 < x
not_root s n r x l m e = by_place 0 x (λ i. i) (λ i. absurd (omega (arith, ap s i))) (λ i. absurd (omega arith))

pub upward : (D S : List ℕ) (r start x : ℕ) → Ready D S r start → Open (cell S) r x → x + cell S x ≡ r
    → Up (cell S) (cell D) r x
upward D S r start x h o e =
    above (cell S) (cell D) r x o e
    (h.rows.row x (not_root (cell S) (length S) r x h.more h.rows.root-size e) o.before)

-- a row that neither ends before r nor at r is r's parent
pub found : (s : ℕ → ℕ) (r x : ℕ) → Open s r x → (x + s x ≡ r → ⊥) → Inner s r x
found s r x o ne =
    record {
      before = o.before;
      past = by_place r (x + s x) (λ i. i) (λ i. absurd (ne (sym i))) (λ i. absurd (omega (arith, o.reach)));
      closed = o.closed;
    }

module _ (s d : ℕ → ℕ) where
  -- with row r right, the rows before r + 1 are, and r is where to start
  pub next-rows : (n r x : ℕ) → Inner s r x → Fine s d r x → Rows s d n r → Rows s d n (r + 1)
  next-rows n r x i f h =
      record {
        root-dist = h.root-dist;
        root-size = h.root-size;
        row = λ z u v.
            by_place z r (h.row z u)
            (λ e. subst (λ (y : ℕ). Row s d y) (sym e) (record { parent = x; inner = i; fine = f }))
            (λ e. absurd (omega arith));
      }

  pub next_open : (r x : ℕ) → Fine s d r x → Open s (r + 1) r
  next_open r x f =
      record { before = omega arith; reach = omega (arith, f.some); closed = λ z u v. absurd (omega arith) }

pub open_at : (s : ℕ → ℕ) (r x y : ℕ) → x ≡ y → Open s r x → Open s r y
open_at s r x y e o = subst (λ (z : ℕ). Open s r z) e o
