-- Tables, some rows at a time: rows behind rows, the first rows, the rows from one on.
-- Assumes nothing.
use Rattle.std.specs.Prelude.{ℕ, ◌≤◌, ◌≡◌, [], ◌∷◌, ◌++◌, length, take, drop}
use Rattle.plan.specs.Tree.{Forest, labels, sizes, dists}
use Rattle.plan.specs.Table.{Table, table}

-- the rows of v behind those of u
infixr 60 ◌⧺◌
abbrev pub ◌⧺◌ : Table → Table → Table
u ⧺ v = table (u.dist ++ v.dist) (u.size ++ v.size) (u.value ++ v.value)

-- one row
abbrev pub one_row : (dist size value : ℕ) → Table
one_row d s a = table (d ∷ []) (s ∷ []) (a ∷ [])

-- the rows of a forest, the first of them d rows behind its parent
abbrev pub rows : ℕ → Forest ℕ → Table
rows d f = table (dists d f) (sizes f) (labels f)

-- the first n rows, and the rows from n on
abbrev pub first_rows : ℕ → Table → Table
first_rows n u = table (take n u.dist) (take n u.size) (take n u.value)

abbrev pub later_rows : ℕ → Table → Table
later_rows n u = table (drop n u.dist) (drop n u.size) (drop n u.value)

-- each column has n rows
pub record Tall (n : ℕ) (u : Table) : Type 0 where
  pub dist : length u.dist ≡ n
  pub size : length u.size ≡ n
  pub value : length u.value ≡ n

-- each column has n rows or more
pub record Room (n : ℕ) (u : Table) : Type 0 where
  pub dist : n ≤ length u.dist
  pub size : n ≤ length u.size
  pub value : n ≤ length u.value
