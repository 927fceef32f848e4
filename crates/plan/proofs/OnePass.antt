-- The one_pass theorem. For every list that passes tests 5, 7 and 8 the pass from left to right, which drops what is
-- vain, gives the tree that the single changes give, the last record first, and no record is left over.
-- Assumes nothing.
use mathlib.Core.Path.{◌≡◌}
use mathlib.Core.List.{List, []}
use lib.Dec.{T}
use Rattle.plan.specs.declared.Record.{Record}
use Rattle.std.specs.Prelude.{None}
use Rattle.plan.specs.Table.{Table}
use Rattle.plan.specs.Change.{meaning, kept}
use Rattle.plan.specs.Paint.{old, plan}
use Rattle.plan.specs.Records.{changes, located}
use Rattle.plan.specs.Call.{result}
use Rattle.plan.proofs.Kit.{All}
use Rattle.plan.proofs.Pass.{pass}
use Rattle.plan.proofs.Faithful.{pass_meaning}
use Rattle.plan.proofs.Kept.{kept-meaning}
use Rattle.plan.proofs.Fits.{InOrder, changes_read, fits}

pub one_pass : (t i : Table) (l : List Record) → All (λ r. T (located (plan old t) r)) l → InOrder None l
    → pass 0 0 (plan old t) (changes i 0 l) ≡ (result t i l, [])
unfolding result
one_pass t i l h o = pass_meaning (plan old t) (changes i 0 l) (fits (plan old t) (changes_read i 0 l) h o)

-- dropping what is vain changes nothing
pub kept_result : (t i : Table) (l : List Record) → All (λ r. T (located (plan old t) r)) l → InOrder None l
    → meaning (kept (plan old t) [] (changes i 0 l)) (plan old t) ≡ result t i l
unfolding result
kept_result t i l h o = kept-meaning (plan old t) (changes i 0 l) (fits (plan old t) (changes_read i 0 l) h o)
