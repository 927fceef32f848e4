-- The loop of the sum test: what it keeps, a turn of it, and what its tests tell.
-- Assumes nothing.
use Rattle.std.proofs.Common.{◌≡◌, ℕ, ◌+◌, ◌*◌, ◌/◌, ◌<◌, ◌≤◌, Bool, true, false, eqb, List, length, sym, refl, ap, ◌∙◌, subst, mul-le-mul, arith, eqb-true}
use borrow.Author.Tests.{eqb-false}
use Rattle.plan.specs.Axes.{cell}
use Rattle.plan.proofs.Kit.{by_place}
use Rattle.table.specs.Rows.{Fine, Rooted, Says}
use Rattle.table.specs.Shape.{Shaped}
use Rattle.table.proofs.Totals.{total, total_next, steps_twice}
use Rattle.table.proofs.Sum.{Near, Nears, weight, sum-test}

-- with row r in order
near_next : (s d : ℕ → ℕ) (n r q : ℕ) → q < r → Fine s d r q → Nears s d n r → Nears s d n (r + 1)
near_next s d n r q b f h =
    record {
      root-dist = h.root-dist;
      root-size = h.root-size;
      near = λ z u v.
          by_place z r (h.near z u)
          (λ e. subst (λ (y : ℕ). Near s d y) (sym e) (record { parent = q; before = b; fine = f }))
          (λ e. absurd (omega arith));
    }

-- what the loop keeps: the rows before r are in order, and x is the sum over them
pub record Adding (D S : List ℕ) (r x : ℕ) : Type 0 where
  pub sum : x ≡ total (weight (cell S) (cell D)) r
  pub most : x ≤ r * 281470681677825
  pub nears : Nears (cell S) (cell D) (length S) r

pub adding_first : (D S : List ℕ) → Rooted D S → Adding D S 1 (length S)
unfolding total
adding_first D S g =
    record {
      sum = omega (arith, g.root-size, ap (λ (d : ℕ). d * cell S 0) g.root-dist);
      most = omega (arith, g.few);
      nears =
          record { root-dist = g.root-dist; root-size = g.root-size; near = λ z u v. absurd (omega arith) };
    }

-- the product of a row
product_most : (a b p : ℕ) → p ≡ a * b → a ≤ 65535 → b < 4294967296 → p ≤ 281470681677825
product_most a b p e h l = let k : b ≤ 4294967295 = omega arith in omega (arith, mul-le-mul h k)

-- a turn of the loop, at row r, whose distance leads to q
pub adding_next : (D S : List ℕ) (r q x p : ℕ) → q < r → r < 65535 → q + cell D r ≡ r → 0 < cell S r
    → cell S r < 4294967296 → cell D r + cell S r ≤ cell S q → p ≡ cell D r * cell S r
    → Adding D S r x → Adding D S (r + 1) (x + p)
adding_next D S r q x p b l far some fit inside e h =
    record {
      sum = omega (arith, h.sum, total_next (weight (cell S) (cell D)) r);
      most = omega (arith, h.most, product_most (cell D r) (cell S r) p e (omega arith) fit);
      nears = near_next (cell S) (cell D) (length S) r q b (omega arith) h.nears;
    }

-- a row whose rows do not fit
pub no_fit : (s d : ℕ → ℕ) (r q : ℕ) → q + d r ≡ r → s q < d r + s r → Near s d r → ⊥
no_fit s d r q far out w =
    let e : w.parent ≡ q = omega (arith, w.fine.far) in
    omega (arith, ap s e, w.fine.inside, w.fine.far)

-- the last test
pub adding_last : (D S : List ℕ) (r x y : ℕ) → Rooted D S → r ≡ length S → Adding D S r x
    → y ≡ length S * (length S + 1) / 2 → Says (eqb x y) (Shaped D S)
adding_last D S r x y g e h hy = go (eqb x y) refl
  where
    sum : x ≡ total (weight (cell S) (cell D)) (length S)
    sum = h.sum ∙ ap (total (weight (cell S) (cell D))) e

    go : (b : Bool) → eqb x y ≡ b → Says b (Shaped D S)
    go true i = (sum-test D S).0 (record {
      rooted = g;
      nears = subst (λ (j : ℕ). Nears (cell S) (cell D) (length S) j) e h.nears;
      sum = omega (arith, sum, eqb-true x y i, steps_twice (length S));
    })
    go false i = λ w. eqb-false x y i (omega (arith, sum, ((sum-test D S).1 w).sum, steps_twice (length S)))
