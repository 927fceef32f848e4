-- What the pass is asked, and what it answers.
-- Assumes nothing.
use Rattle.std.specs.Prelude.{ℕ, ◌≤◌, ◌≡◌, List, T, length, None}
use Rattle.plan.specs.declared.Record.{Record}
use Rattle.plan.specs.Tree.{count}
use Rattle.plan.specs.Table.{Table, even, sound, most_rows}
use Rattle.plan.specs.Paint.{old, plan, written}
use Rattle.plan.specs.Call.{result, over}
use Rattle.plan.specs.Records.{PassAll}

-- given: a sound table t, insertions i, a list l that passes tests 4 to 8, and new columns u with room for the result
pub record Given (t i : Table) (l : List Record) (u : Table) : Type 0 where
  pub table-sound : T (sound t)
  pub passes : PassAll (plan old t) i None l
  pub few : count (result t i l) ≤ most_rows
  pub even-new : T (even u)
  pub room : count (result t i l) ≤ length u.size

-- answered: the columns u became v. The first n rows are the result's, the rows behind them stay
pub record Answered (t i : Table) (l : List Record) (u v : Table) (n : ℕ) : Type 0 where
  pub rows : n ≡ count (result t i l)
  pub columns : v ≡ over (written (result t i l)) u
