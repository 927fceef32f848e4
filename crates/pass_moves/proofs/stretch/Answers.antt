-- `pass_moves::stretch` meets its contract: the distances are copied as they hang then, sizes as they are, and the
-- values that are missing.
-- Assumes nothing.
use mathlib.Core.Path.{◌∙◌}
use Rattle.plan.specs.Table.{table}
use Rattle.pass_moves.proofs.Copies.{copy_ahead}
use Rattle.pass_moves.proofs.stretch.Goals as goal

pub returns-clause-fact : goal.returns-clause-fact
returns-clause-fact c =
    let h = c.requires in
    record {
      wrote =
          λ l A.
          let v = c.copy-2.ensures
          ∙ copy_ahead A c.args.stop.0 _ c.unread-left.ensures h.room.value h.there.value
          h.ahead in
          λ w. table (c.rehang.ensures w) (c.copy.ensures w) (v w);
    }
