-- What the calls answer for a list whose columns are uneven: test 1 failed.
-- Assumes nothing.
use Prim.Native.Nat.{ℕ}
use mathlib.Core.Path.{◌≡◌}
use mathlib.Core.Bool.{false}
use mathlib.Core.List.{List}
use lib.Dec.{eqb}
use lib.ListN.{length}
use Rattle.std.specs.Prelude.{Option, Result, IsErrAnd}
use Rattle.std.proofs.lemmas.Result.{err_from_is_err_and}
use Rattle.plan.specs.declared.NewPre.{NewPre}
use Rattle.plan.specs.declared.Source.{Source}
use Rattle.plan.specs.declared.refusal.Refusal.{Refusal}
use Rattle.plan.specs.declared.refusal.Refusal.TheVariants.{Uneven}
use Rattle.plan.specs.Table.{Table}
use Rattle.plan.specs.Paint.{origins}
use Rattle.plan.specs.Call.{result, judged}
use Rattle.plan.specs.Lent.{Lent, level, list}
use Rattle.plan.specs.Mapping.{fate, origin_at, queried, became, was, mapped, Places, OldDone, NewDone}
use Rattle.plan.specs.Told.{became_told, was_told, answer_told}
use Rattle.plan.proofs.Kit.{and_false}

-- such a refusal
abbrev Refused : {A : Type 0} → Result A Refusal → Type 0
Refused a = IsErrAnd a (λ e. e ≡ Uneven)

module _ (t i : Table) (c : Lent) where
  pub became_uneven : (n x : ℕ) (a : Result (Option NewPre) Refusal) → Refused a → level c ≡ false
      → became_told a ≡ became (queried (level c) t i (list c) n x) (fate (origins (result t i (list c))) 0 x)
  unfolding queried judged
  became_uneven n x a h e = let p = err_from_is_err_and a h in rw (p.1, p.2, e)

  pub was_uneven : (n x : ℕ) (a : Result Source Refusal) → Refused a → level c ≡ false
      → was_told a ≡ was (queried (level c) t i (list c) n x) (origin_at (origins (result t i (list c))) x)
  unfolding queried judged
  was_uneven n x a h e = let p = err_from_is_err_and a h in rw (p.1, p.2, e)

  pub old_uneven : (u : List ℕ) (a : Result ℕ Refusal) → Refused a → level c ≡ false
      → OldDone (level c) t i (list c) u (answer_told a) u
  unfolding mapped judged
  old_uneven u a h e =
      let p = err_from_is_err_and a h in record { answered = rw (p.1, p.2, e); column = rw e }

  pub new_uneven : (u : Places) (a : Result ℕ Refusal) → Refused a → level c ≡ false
      → NewDone (level c) t i (list c) u (answer_told a) u
  unfolding mapped judged
  new_uneven u a h e =
      let p = err_from_is_err_and a h in
      let odd = and_false (eqb (length u.rows) (length u.records)) e in
      record { answered = rw (p.1, p.2, odd); records = rw odd; rows = rw odd }
