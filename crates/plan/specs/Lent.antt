-- A list lent as columns: five columns of numbers, read as records.
-- Assumes nothing.
use Rattle.std.specs.Prelude.{ℕ, zero, suc, Bool, ◌&&◌, List, [], ◌∷◌, eqb, length, get_or}
use Rattle.plan.specs.declared.Record.{Record}
use Rattle.plan.specs.declared.lent.Changes.{Changes}

pub record Lent : Type 0 where
  pub kind : List ℕ
  pub location : List ℕ
  pub parent : List ℕ
  pub from : List ℕ
  pub value : List ℕ

abbrev pub lent : (kind location parent from value : List ℕ) → Lent
lent k l p f v = record { kind = k; location = l; parent = p; from = f; value = v }

abbrev pub read_list : Changes → Lent
read_list c = lent c.kind.now c.location.now c.parent.now c.from.now c.value.now

-- are the five columns equally long?
unfoldable pub level : Lent → Bool
level c =
    let n = length c.kind in
    eqb (length c.location) n
    && (eqb (length c.parent) n && (eqb (length c.from) n && eqb (length c.value) n))

-- record j
abbrev pub record_at : Lent → ℕ → Record
record_at c j =
    record {
      kind = get_or c.kind j 0;
      location = get_or c.location j 0;
      parent = get_or c.parent j 0;
      from = get_or c.from j 0;
      value = get_or c.value j 0;
    }

-- n records from record j on, and all of them
unfoldable pub listed : Lent → (j n : ℕ) → List Record
listed c j zero = []
listed c j (suc n) = record_at c j ∷ listed c (suc j) n

abbrev pub list : Lent → List Record
list c = listed c 0 (length c.kind)
