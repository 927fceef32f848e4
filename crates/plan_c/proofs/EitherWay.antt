-- A list lent as columns and the same list lent as a slice get the same answer, and the same columns are written: what
-- the call on columns ensures, and what the exported call on a slice ensures, leave no choice.
-- Assumes nothing.
use Prim.Native.Nat.{ℕ}
use mathlib.Core.Path.{◌≡◌, refl, sym, ap, ◌∙◌, subst}
use mathlib.Core.Bool.{Bool, true, ◌&&◌}
use mathlib.Core.List.{List}
use lib.ListN.{length}
use Rattle.std.specs.Prelude.{Result}
use Rattle.plan.specs.declared.Record.{Record}
use Rattle.plan.specs.declared.Answer.{Answer}
use Rattle.plan.specs.Tree.{count}
use Rattle.plan.specs.Table.{Table, even}
use Rattle.plan.specs.Paint.{origins}
use Rattle.plan.specs.Call.{result}
use Rattle.plan.specs.Lent.{Lent, level, list}
use Rattle.plan.specs.Mapping.{fate, origin_at, queried}
use Rattle.plan.specs.declared.refusal.Refusal.{Refusal}
use Rattle.plan.specs.Told.{judgement_told}
use Rattle.plan.proofs.Apart.{judgement_once}
use Rattle.plan.specs.Verdict.{Judgement}
use Rattle.plan.specs.Call.{published, published_of}
use Rattle.plan.specs.Call.{Done}
use Rattle.refresh.proofs.Outcomes.{one_outcome}
use Rattle.plan.specs.Mapping.{Became}
use Rattle.plan.specs.Mapping.{Was}
use Rattle.plan.specs.Mapping.{became, was}
use Rattle.plan.specs.declared.PlanBecame.{PlanBecame}
use Rattle.plan.specs.declared.PlanWas.{PlanWas}
use Rattle.plan.specs.Handed.{became_of, was_of}
use Rattle.plan.specs.Mapping.{Places, OldDone, NewDone}
use Rattle.mapping.proofs.EveryRow.{one_old, one_new}

-- c is the list l, lent as five columns of equal length
module _ (t i : Table) (c : Lent) (l : List Record) (even-columns : level c ≡ true) (same : list c ≡ l) where
  -- what is said of the one holds of the other
  as_slice : (P : Bool → List Record → Type 0) → P (level c) (list c) → P true l
  as_slice P h = subst (λ (b : Bool). P b l) even-columns (subst (P (level c)) same h)

  pub judged_either_way : (a b : Judgement) → a ≡ published t i c → b ≡ published_of (even t && even i) t i l → a ≡ b
  judged_either_way a b d e =
      as_slice (λ (v : Bool) (rs : List Record). a ≡ published_of (v && (even t && even i)) t i rs) d ∙ sym e

  pub one-judgement_either_way : (a b : Result ℕ Refusal) → judgement_told a ≡ published t i c
      → judgement_told b ≡ published_of (even t && even i) t i l → a ≡ b
  one-judgement_either_way a b d e =
      judgement_once (judgement_told b) a b (judged_either_way (judgement_told a) (judgement_told b) d e) refl

  pub bulk_either_way : (u : Table) (a b : Answer) (w v : Table) → Done (level c) t i (list c) u a w
      → Done true t i l u b v → (a ≡ b) × (w ≡ v)
  bulk_either_way u a b w v d e =
      one_outcome true t i l u a w (as_slice (λ (z : Bool) (rs : List Record). Done z t i rs u a w) d) b v e

  pub old_either_way : (x : ℕ) (a : Became) (b : PlanBecame)
      → a ≡ became (queried (level c) t i (list c) (length t.size) x) (fate (origins (result t i (list c))) 0 x)
      → b ≡ became_of (became (queried true t i l (length t.size) x) (fate (origins (result t i l)) 0 x))
      → became_of a ≡ b
  old_either_way x a b d e =
      ap became_of
      (as_slice
      (λ (z : Bool) (rs : List Record).
      a ≡ became (queried z t i rs (length t.size) x) (fate (origins (result t i rs)) 0 x)) d)
      ∙ sym e

  pub new_either_way : (x : ℕ) (a : Was) (b : PlanWas)
      → a ≡ was (queried (level c) t i (list c) (count (result t i (list c))) x)
      (origin_at (origins (result t i (list c))) x)
      → b ≡ was_of (was (queried true t i l (count (result t i l)) x) (origin_at (origins (result t i l)) x))
      → was_of a ≡ b
  new_either_way x a b d e =
      ap was_of
      (as_slice
      (λ (z : Bool) (rs : List Record).
      a ≡ was (queried z t i rs (count (result t i rs)) x) (origin_at (origins (result t i rs)) x)) d)
      ∙ sym e

  pub every_old_either_way : (u : List ℕ) (a b : Answer) (w v : List ℕ) → OldDone (level c) t i (list c) u a w
      → OldDone true t i l u b v → (a ≡ b) × (w ≡ v)
  every_old_either_way u a b w v d e =
      one_old true t i l u a b w v (as_slice (λ (z : Bool) (rs : List Record). OldDone z t i rs u a w) d) e

  pub every_new_either_way : (u : Places) (a b : Answer) (w v : Places) → NewDone (level c) t i (list c) u a w
      → NewDone true t i l u b v → (a ≡ b) × (w.records ≡ v.records) × (w.rows ≡ v.rows)
  every_new_either_way u a b w v d e =
      one_new true t i l u a b w v (as_slice (λ (z : Bool) (rs : List Record). NewDone z t i rs u a w) d) e
