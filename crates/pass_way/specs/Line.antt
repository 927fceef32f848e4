-- The line of open rows: the innermost, its parent, and so on up to the root. It tells how many old rows are left to
-- walk under the innermost, and that the distances, old and new, lead from each to the one above.
-- Assumes nothing.
use Rattle.std.specs.Prelude.{ℕ, suc, ◌+◌, ◌-◌, ◌<◌, ◌≡◌, length}
use Rattle.plan.specs.Tree.{Forest, tree, count}
use Rattle.plan.specs.Table.{Table}
use Rattle.plan.specs.Open.{dist_at}
use Rattle.pass_moves.specs.Rows.{◌⧺◌, rows, later_rows}

-- the rows of t from row b on begin with those of the forest f, whose parent is row q
pub record Old (t : Table) (b q : ℕ) (f : Forest ℕ) : Type 0 where
  pub behind : Table
  pub is : later_rows b t ≡ rows (b - q) f ⧺ behind

-- the rows of t from row i on, up to the end of the open row q, are those of f. The row q became the row j of the
-- columns u. And so for the rows above q
pub data Line (t u : Table) : (i q j : ℕ) → Forest ℕ → Type 0 where
  base : {i : ℕ} {f : Forest ℕ} → 0 < i → Old t i 0 f → i + count f ≡ length t.size → Line t u i 0 0 f
  down : {b q j i m a : ℕ} {k r f : Forest ℕ} → Line t u b q j (tree a k r) → b < i → Old t i b f
      → i + count f ≡ suc b + count k → j < m → dist_at u m ≡ m - j → Line t u i b m f
