-- `refresh::bulk` meets its contract: test 1 of the list's columns, and then its records are applied.
use Rattle.std.proofs.lemmas.Result.{err_from_is_err_and}
use Rattle.refresh.proofs.Settling.{done_odd}
use Rattle.refresh.proofs.bulk.Goals as goal

pub returns-in_err-level : goal.returns-in_err-level
returns-in_err-level c =
    let p = err_from_is_err_and c.from_residual.result c.from_residual.ensures.1 in
    rw (p.1, p.2) (done_odd _ _ _ _ c.in_err-level.ensures)
