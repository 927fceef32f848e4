-- A list over plain values, without paint.
-- Assumes nothing.
use Rattle.std.specs.Prelude.{ℕ, Bool, cond, List, [], ◌∷◌}
use Rattle.plan.specs.declared.Record.{Record}
use Rattle.plan.specs.Tree.{Forest}
use Rattle.plan.specs.Table.{Table, spelled, run}
use Rattle.plan.specs.Change.{delete, rename, replace, Change, insert, act}
use Rattle.plan.specs.Records.{is_delete, is_insert, is_rename}

-- the tree that a sound table spells, without paint
abbrev pub plain : Table → Forest ℕ
plain t = spelled t.size t.value

-- one of four, by the kind
abbrev pub by_kind : {X : Type 0} → (d i n : Bool) (x y z w : X) → X
by_kind d i n x y z w = cond d x (cond i y (cond n z w))

-- what a record means for plain values
unfoldable pub valued : Table → Record → Change ℕ
valued i r =
    let p = r.location in
    let s = plain (run i r.from) in
    by_kind (is_delete r) (is_insert r) (is_rename r)
    (act p delete) (insert p r.parent s) (act p (rename (λ a. r.value))) (act p (replace s))

abbrev pub values : Table → List Record → List (Change ℕ)
values i [] = []
values i (r ∷ rs) = valued i r ∷ values i rs
