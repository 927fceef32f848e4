-- A table: three columns of numbers. What table a tree is written as, what forest a table spells, which tables are
-- sound.
-- Assumes nothing.
use Rattle.std.specs.Prelude.{ℕ, zero, suc, ◌-◌, ◌≤◌, ◌≡◌, Bool, true, false, ◌&&◌, List, [], ◌∷◌, leb, eqb, length, take, drop, get_or}
use Rattle.plan.specs.declared.lent.Table.{Table as Columns}
use Rattle.plan.specs.Tree.{Forest, none, tree, count, labels, sizes, dists, is_tree}

pub record Table : Type 0 where
  pub dist : List ℕ
  pub size : List ℕ
  pub value : List ℕ

abbrev pub table : (dist size value : List ℕ) → Table
table d s v = record { dist = d; size = s; value = v }

-- the table that stands in three lent columns
abbrev pub read : Columns → Table
read c = table c.dist.now c.size.now c.value.now

-- are the three columns equally long?
unfoldable pub even : Table → Bool
even t = eqb (length t.dist) (length t.size) && eqb (length t.value) (length t.size)

-- the table of a tree: row 0 is the root, with distance 1
abbrev pub table_of : Forest ℕ → Table
table_of f = table (dists 1 f) (sizes f) (labels f)

module _ {A : Type 0} where
  -- the first trees, of n rows together, and the trees behind them
  unfoldable pub first : Forest A → ℕ → Forest A
  first none n = none
  first (tree a kids rest) zero = none
  first (tree a kids rest) (suc n) = tree a kids (first rest (n - count kids))

  unfoldable pub behind : Forest A → ℕ → Forest A
  behind none n = none
  behind (tree a kids rest) zero = tree a kids rest
  behind (tree a kids rest) (suc n) = behind rest (n - count kids)

  -- the forest that sizes and labels spell: the children of a row of size s fill the s − 1 rows after it
  unfoldable pub spelled : List ℕ → List A → Forest A
  spelled [] ls = none
  spelled (s ∷ ss) [] = none
  spelled (s ∷ ss) (a ∷ ls) = let f = spelled ss ls in tree a (first f (s - 1)) (behind f (s - 1))

-- are two columns, two tables the same?
unfoldable pub same : List ℕ → List ℕ → Bool
same [] [] = true
same [] (y ∷ ys) = false
same (x ∷ xs) [] = false
same (x ∷ xs) (y ∷ ys) = eqb x y && same xs ys

unfoldable pub same_table : Table → Table → Bool
same_table t u = same t.dist u.dist && (same t.size u.size && same t.value u.value)

-- sound: the table of the one tree that it spells, of at most 65,535 rows
abbrev pub most_rows : ℕ
most_rows = 65535

unfoldable pub sound : Table → Bool
sound t = let f = spelled t.size t.value in leb (count f) most_rows && (is_tree f && same_table t (table_of f))

-- t is the table of the tree with root label and kids, of at most 65,535 rows
pub record TreeOf (t : Table) : Type 0 where
  pub root : ℕ
  pub kids : Forest ℕ
  pub is-table : t ≡ table_of (tree root kids none)
  pub few : suc (count kids) ≤ most_rows

abbrev pub tree_of : {t : Table} → TreeOf t → Forest ℕ
tree_of h = tree h.root h.kids none

-- the run that starts at row f: as many rows as the size there says
unfoldable pub run : Table → ℕ → Table
run i f =
    let n = get_or i.size f 0 in
    table (take n (drop f i.dist)) (take n (drop f i.size)) (take n (drop f i.value))
