-- What it takes to pass tests 4 to 8, record by record.
-- Assumes nothing.
use Prim.Native.Nat.{ℕ, suc}
use native.Mathlib.Omega.{arith}
use mathlib.Core.Path.{◌≡◌, refl}
use mathlib.Core.Bool.{Bool, true, false, not, cond}
use mathlib.Core.List.{List, [], ◌∷◌}
use lib.Dec.{T, eqb}
use borrow.Author.Tests.{eqb-true}
use Rattle.plan.specs.declared.Record.{Record}
use Rattle.std.specs.Prelude.{Option, Some}
use Rattle.plan.specs.Verdict.{Passed}
use Rattle.plan.specs.Tree.{Forest}
use Rattle.plan.specs.Table.{Table}
use Rattle.plan.specs.Records.{known, located, runs, follows, alone, failing}
pub use Rattle.plan.specs.Records.{Passes, PassAll}
use Rattle.plan.specs.Call.{test, tested}
use Rattle.plan.proofs.Kit.{true_of, All}
use Rattle.plan.proofs.Verdicts.{test_true, then-passed}
use Rattle.plan.proofs.Fits.{InOrder}

-- the first of five tests that fails, or 0
abbrev pick : (k l r f a : Bool) → ℕ
pick k l r f a = cond (not k) 4 (cond (not l) 5 (cond (not r) 6 (cond (not f) 7 (cond (not a) 8 0))))

pick_zero : (k l r f a : Bool) → pick k l r f a ≡ 0 → T k × T l × T r × T f × T a
pick_zero false l r f a e = absurd (omega arith)
pick_zero true false r f a e = absurd (omega arith)
pick_zero true true false f a e = absurd (omega arith)
pick_zero true true true false a e = absurd (omega arith)
pick_zero true true true true false e = absurd (omega arith)
pick_zero true true true true true e = (tt, tt, tt, tt, tt)

zero_pick : (k l r f a : Bool) → T k → T l → T r → T f → T a → pick k l r f a ≡ 0
zero_pick k l r f a s t u v w = rw (true_of k s, true_of l t, true_of r u, true_of f v, true_of a w)

module _ {A : Type 0} (t : Forest A) (i : Table) where
  pub passes : (b : Option Record) (r : Record) → failing t i b r ≡ 0 → Passes t i b r
  unfolding failing
  passes b r e =
      let w = pick_zero (known r) (located t r) (runs i r) (follows b r) (alone b r) e in
      record { kind-known = w.0; in_place = w.1; run_sound = w.2; in_order = w.3; by_itself = w.4 }

  pub none-failing : (b : Option Record) (r : Record) → Passes t i b r → failing t i b r ≡ 0
  unfolding failing
  none-failing b r h =
      zero_pick (known r) (located t r) (runs i r) (follows b r) (alone b r) h.kind-known h.in_place
      h.run_sound h.in_order h.by_itself

  pub tested-passes : (k : ℕ) (b : Option Record) (rs : List Record) → tested t i k b rs ≡ Passed → PassAll t i b rs
  unfolding tested
  tested-passes k b [] e = tt
  tested-passes k b (r ∷ rs) e =
      let n : ℕ = failing t i b r in
      let w = then-passed (test (eqb n 0) n k 0) (tested t i (suc k) (Some r) rs) e in
      (passes b r (eqb-true n 0 (test_true (eqb n 0) n k 0 w.0)), tested-passes (suc k) (Some r) rs w.1)

  pub passes-tested : (k : ℕ) (b : Option Record) (rs : List Record) → PassAll t i b rs → tested t i k b rs ≡ Passed
  unfolding tested
  passes-tested k b [] h = refl
  passes-tested k b (r ∷ rs) h = rw (none-failing b r h.0) (passes-tested (suc k) (Some r) rs h.1)

  pub all_located : (b : Option Record) (rs : List Record) → PassAll t i b rs → All (λ r. T (located t r)) rs
  all_located b [] h = tt
  all_located b (r ∷ rs) h = (h.0.in_place, all_located (Some r) rs h.1)

  pub all_ordered : (b : Option Record) (rs : List Record) → PassAll t i b rs → InOrder b rs
  all_ordered b [] h = tt
  all_ordered b (r ∷ rs) h = (h.0.in_order, h.0.by_itself, all_ordered (Some r) rs h.1)
