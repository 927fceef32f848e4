-- `table::sound::is_sound` meets its contract.
use Rattle.std.proofs.Common.{sym, ◌∙◌, rules}
use Rattle.plan.proofs.Tests.{even_lengths}
use Rattle.table.proofs.Says.{says_false}
use Rattle.table.proofs.Shapes.{shape_says, uneven-unsound, rootless_unsound}
use Rattle.table.proofs.Told.{even_says}
use Rattle.table.proofs.sound.is_sound.Goals as goal
use Rattle.table.proofs.sound.is_sound.Goals.{then-is_ok, else-is_ok}

pub returns-then-rooted : goal.returns-then-rooted
returns-then-rooted c =
    elim c.if-is_ok.branch [
      | then-is_ok w ↦
          shape_says _ _ _ _ (even_lengths _ (even_says _ _ c.test_even.ensures w.if-is_ok.ensures.value)).1
          c.sums.ensures
      | else-is_ok w ↦ search rules
    ]

pub returns-else-rooted : goal.returns-else-rooted
returns-else-rooted c =
    elim c.if-is_ok.branch [
      | then-is_ok w ↦
          c.if-rooted.false
          ∙ rootless_unsound _ _ _ (says_false _ _ (sym w.value-is ∙ c.if-rooted.false) w.rooted.ensures)
      | else-is_ok w ↦
          c.if-rooted.false
          ∙ uneven-unsound _ (even_says _ _ c.test_even.ensures w.if-is_ok.ensures.value)
    ]
