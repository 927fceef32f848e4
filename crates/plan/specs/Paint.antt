-- Rows painted with where they come from: after a list, the paint of each new row tells which row it was.
-- Assumes nothing.
use Rattle.std.specs.Prelude.{ℕ, suc, List, [], ◌∷◌, map}
use Rattle.plan.specs.Tree.{Forest, labels, relabel}
use Rattle.plan.specs.Table.{Table, table_of, spelled}

-- an old row, or row i of the run of record k
pub data Origin : Type 0 where
  old : ℕ → Origin
  new : (k i : ℕ) → Origin

pub record Painted : Type 0 where
  pub value : ℕ
  pub origin : Origin

-- values, painted from row i on
unfoldable pub painted : (ℕ → Origin) → ℕ → List ℕ → List Painted
painted o i [] = []
painted o i (v ∷ vs) = record { value = v; origin = o i } ∷ painted o (suc i) vs

-- the painted forest that a table spells
unfoldable pub plan : (ℕ → Origin) → Table → Forest Painted
plan o t = spelled t.size (painted o 0 t.value)

-- the table of a painted forest, and each row's origin
abbrev pub bare : Painted → ℕ
bare a = a.value

abbrev pub written : Forest Painted → Table
written f = table_of (relabel bare f)

abbrev pub origins : Forest Painted → List Origin
origins f = map (λ a. a.origin) (labels f)
