-- One record: where its change is made, and the rows that come there.
-- Assumes nothing.
use Rattle.std.specs.Prelude.{ℕ, ◌+◌, ◌-◌, ◌≡◌, cond, List, T, get_or}
use Rattle.plan.specs.declared.Record.{Record}
use Rattle.plan.specs.Table.{Table}
use Rattle.plan.specs.Way.{has_run}
use Rattle.pass_moves.specs.declared.Cursor.{Cursor}
use Rattle.pass_moves.specs.Written.{out, laid, Pastes}

-- the row under which its change is made: an insert's parent, or the parent of the row that it names
pub record Under (dist : List ℕ) (r : Record) (q : ℕ) : Type 0 where
  pub insert : r.kind ≡ 2 → r.parent ≡ q
  pub other : (r.kind ≡ 2 → ⊥) → r.location ≡ q + get_or dist r.location 0

-- its run, of n rows, can come next
abbrev pub Brings : (i u : Table) (c : Cursor) (r : Record) (n : ℕ) → Type 0
Brings i u c r n = T (has_run r) → Pastes i r.from n u c

-- the columns u, with its run
unfoldable pub with_run : (i u : Table) (c : Cursor) (r : Record) (n : ℕ) → Table
with_run i u c r n = cond (has_run r) (laid u (out c) i r.from n (out c - c.under.0)) u
