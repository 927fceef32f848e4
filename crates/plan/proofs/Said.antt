-- A record and its change, seen from the origins: where it stands, whether it is lost, what it takes away, what it
-- brings.
-- Assumes nothing.
use Prim.Native.Nat.{ℕ, ◌+◌}
use native.Mathlib.Omega.{arith}
use mathlib.Core.Path.{◌≡◌, refl}
use mathlib.Core.Bool.{false}
use mathlib.Core.List.{List}
use lib.Dec.{T}
use Rattle.plan.specs.declared.Record.{Record}
use Rattle.plan.specs.Tree.{Forest, sizes}
use Rattle.plan.specs.Table.{Table, even}
use Rattle.plan.specs.Change.{Change, location, lost}
use Rattle.plan.specs.Paint.{Painted, new}
use Rattle.plan.specs.Records.{is_rename, change, known, runs}
use Rattle.plan.specs.Way.{vain, brought, taken, taken_from}
use Rattle.plan.proofs.FourKinds.{by_kind, is-delete, is-insert, is-rename, is-replace, run-within}
use Rattle.plan.proofs.Trimmed.{gone-from, gone_to}
use Rattle.plan.proofs.Merge.{onward}
use Rattle.plan.proofs.Mapping.{rows_of, arrives}
use Rattle.plan.proofs.Following.{run-rows}

-- c is what r says, seen from the origins: of a table with these sizes, and insertions with those
pub record Says (t : Forest Painted) (size isize : List ℕ) (k : ℕ) (r : Record) (c : Change Painted) : Type 0 where
  pub at-location : location c ≡ r.location
  pub is_lost : (first end : ℕ) → lost first end c ≡ vain first end r
  pub from_row : gone-from t c ≡ taken_from r
  pub to_row : gone_to t c ≡ taken_from r + taken size r
  pub goes_on : is_rename r ≡ false → onward t c ≡ r.location + taken size r
  pub comes : is_rename r ≡ false → arrives t c ≡ rows_of (new k) 0 (brought isize r)

module _ (t : Forest Painted) (i : Table) (k : ℕ) (r : Record) (h : T (even i)) (u : T (runs i r)) where
  says_delete : r.kind ≡ 1 → Says t (sizes t) i.size k r (change i k r)
  says_delete e =
      rw (is-delete i k r e, e)
      (record {
        at-location = refl;
        is_lost = λ first end. refl;
        from_row = refl;
        to_row = refl;
        goes_on = λ n. refl;
        comes = λ n. refl;
      })

  says_insert : r.kind ≡ 2 → Says t (sizes t) i.size k r (change i k r)
  says_insert e =
      let w = run-within i r u (rw e tt) in
      rw (is-insert i k r e, e)
      (record {
        at-location = refl;
        is_lost = λ first end. refl;
        from_row = refl;
        to_row = refl;
        goes_on = λ n. omega arith;
        comes = λ n. run-rows k i r.from h w.1;
      })

  says_rename : r.kind ≡ 3 → Says t (sizes t) i.size k r (change i k r)
  says_rename e =
      rw (is-rename i k r e, e)
      (record {
        at-location = refl;
        is_lost = λ first end. refl;
        from_row = refl;
        to_row = refl;
        goes_on = λ n. let z : ◌≡◌ {A = ℕ} 0 1 = cc in absurd (omega arith);
        comes = λ n. let z : ◌≡◌ {A = ℕ} 0 1 = cc in absurd (omega arith);
      })

  says_replace : r.kind ≡ 4 → Says t (sizes t) i.size k r (change i k r)
  says_replace e =
      let w = run-within i r u (rw e tt) in
      rw (is-replace i k r e, e)
      (record {
        at-location = refl;
        is_lost = λ first end. refl;
        from_row = refl;
        to_row = refl;
        goes_on = λ n. refl;
        comes = λ n. run-rows k i r.from h w.1;
      })

  pub says : T (known r) → Says t (sizes t) i.size k r (change i k r)
  says v = by_kind r v says_delete says_insert says_rename says_replace
