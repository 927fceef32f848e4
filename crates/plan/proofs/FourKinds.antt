-- The four kinds of record: what a record of each kind is read as.
-- Assumes nothing.
use Prim.Native.Nat.{ℕ, ◌+◌, ◌≤◌, ◌<◌}
use native.Mathlib.Omega.{arith}
use mathlib.Core.Path.{◌≡◌}
use mathlib.Core.Bool.{Bool, true, false, not, ◌&&◌, ◌||◌}
use lib.Dec.{T, leb, ltb, leb→le, ltb→lt}
use lib.ListN.{length, get_or}
use Rattle.plan.specs.declared.Record.{Record}
use Rattle.plan.specs.Tree.{Forest}
use Rattle.plan.specs.Table.{Table, sound, run}
use Rattle.plan.specs.Change.{delete, rename, replace, insert, act}
use Rattle.plan.specs.Paint.{Painted, new, plan}
use Rattle.plan.specs.Records.{change, known, runs}
use Rattle.plan.specs.Way.{has_run}
use Rattle.plan.proofs.Kit.{T_and, by_place}

-- ---- kind by kind
pub by_kind : {P : Type 0} (r : Record) → T (known r)
    → (r.kind ≡ 1 → P) → (r.kind ≡ 2 → P) → (r.kind ≡ 3 → P) → (r.kind ≡ 4 → P) → P
unfolding known
by_kind r t d i n p =
    let w = T_and (leb 1 r.kind) (leb r.kind 4) t in
    let l = leb→le 1 r.kind w.0 in
    let m = leb→le r.kind 4 w.1 in
    by_place r.kind 2 (λ h. d (omega arith)) i
    (λ h. by_place r.kind 4 (λ k. n (omega arith)) p (λ k. absurd (omega arith)))

module _ (i : Table) (k : ℕ) (r : Record) where
  abbrev its_run : Forest Painted
  its_run = plan (new k) (run i r.from)

  pub is-delete : r.kind ≡ 1 → change i k r ≡ act r.location delete
  unfolding change
  is-delete e = rw e

  pub is-insert : r.kind ≡ 2 → change i k r ≡ insert r.location r.parent its_run
  unfolding change
  is-insert e = rw e

  pub is-rename : r.kind ≡ 3
      → change i k r ≡ act r.location (rename (λ a. record { value = r.value; origin = a.origin }))
  unfolding change
  is-rename e = rw e

  pub is-replace : r.kind ≡ 4 → change i k r ≡ act r.location (replace its_run)
  unfolding change
  is-replace e = rw e

-- the run of a record that passes test 6 ends within the insertions
implied : (x y : Bool) → T (not x || y) → T x → T y
implied true y t h = t
implied false y t h = absurd h

pub run-within : (i : Table) (r : Record) → T (runs i r) → T (has_run r)
    → (r.from < length i.size) × (r.from + get_or i.size r.from 0 ≤ length i.size)
unfolding runs
run-within i r t h =
    let f : ℕ = r.from in
    let m : ℕ = length i.size in
    let ends : Bool = leb (f + get_or i.size f 0) m in
    let w = T_and (ltb f m) (ends && sound (run i f)) (implied (has_run r) _ t h) in
    (ltb→lt f m w.0, leb→le (f + get_or i.size f 0) m (T_and ends (sound (run i f)) w.1).0)
