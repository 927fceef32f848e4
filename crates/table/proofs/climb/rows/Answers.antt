-- `table::climb::rows` meets its contract: the rows passed have parents, and x is where to start the climb.
use Rattle.std.proofs.Common.{ℕ, length, subst, arith, rules}
use Rattle.plan.specs.Axes.{cell}
use Rattle.table.specs.Rows.{Rows}
use Rattle.table.proofs.Prefix.{no_way, begun-rows, rows_shape}
use Rattle.table.proofs.Says.{says_true, says_false}
use Rattle.table.proofs.Upward.{next-rows, next_open}
use Rattle.table.proofs.climb.rows.Goals as goal

pub loop-r-preserved : goal.loop-r-preserved
loop-r-preserved c =
    let right = says_true _ _ c.if-not-fits.false c.fits.ensures in
    let i = c.loop-r.invariant in
    (search rules, next_open _ _ _ _ right, next-rows _ _ _ _ _ c.up-x.ensures right i.2)

pub returns-then-not-fits : goal.returns-then-not-fits
returns-then-not-fits c =
    let i = c.loop-r.invariant in (
      no_way _ _ _ _ (search rules) c.up-x.ensures
          (says_false _ _ c.if-not-fits.true c.fits.ensures),
      (λ l. begun-rows _ _ _ _ c.requires i.0 i.2 i.1),
    )

pub returns : goal.returns
returns c =
    let a = c.args in
    rows_shape _ _ c.requires
    (subst (λ (k : ℕ). Rows (cell a.size.now) (cell a.dist.now) (length a.size.now) k) (omega arith)
    c.loop-r.invariant.2)
