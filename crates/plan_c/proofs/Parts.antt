-- A start and a length tell the part of the value column itself: those values are the subtree's.
-- Assumes nothing.
use Prim.Native.Nat.{ℕ}
use mathlib.Core.Path.{◌≡◌, refl}
use lib.ListN.{length, take, drop}
use Rattle.plan.specs.Verdict.{Verdict}
use Rattle.plan.specs.Verdict.{Passed, Failed}
use Rattle.plan.specs.Table.{Table}
use Rattle.plan.specs.Axes.{whole, subtree_top, subtree}
use Rattle.plan.proofs.Axes.{subtree-whole, subtree_failed}
use Rattle.plan.specs.Handed.{part_of}
use Rattle.plan.specs.declared.PlanPart.{PlanPart}

-- what `plan_subtree` hands back, and that it tells the values of the subtree
abbrev pub part : Table → ℕ → PlanPart
part t r = part_of (subtree_top t r) (length (subtree t r))

abbrev pub Told : Table → ℕ → Type 0
Told t r = take (part t r).length (drop (part t r).start t.value) ≡ subtree t r

passed : (t : Table) (r : ℕ) → whole t r ≡ Passed → Told t r
unfolding subtree
passed t r e = let w = subtree-whole t r e in rw (w.0, w.1, e)

failed : (t : Table) (r number place count : ℕ) → whole t r ≡ Failed number place count → Told t r
failed t r number place count e = let w = subtree_failed t r number place count e in rw (w.0, w.1)

pub part-values : (t : Table) (r : ℕ) → Told t r
part-values t r = go (whole t r) refl
  where
    go : (v : Verdict) → whole t r ≡ v → Told t r
    go Passed e = passed t r e
    go (Failed number place count) e = failed t r number place count e
