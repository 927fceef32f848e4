-- What a kind doesn't use is not read: records that agree in what their kind uses are tested alike and mean the same,
-- and the record behind them is tested alike.
-- Assumes nothing.
use Prim.Native.Nat.{ℕ}
use native.Mathlib.Omega.{arith}
use mathlib.Core.Path.{◌≡◌, refl, sym, ◌∙◌}
use mathlib.Core.Bool.{Bool, true, false, ◌||◌}
use lib.Dec.{T, leb, leb→le}
use Rattle.plan.specs.declared.Record.{Record}
use Rattle.std.specs.Prelude.{Option, Some, None}
use Rattle.plan.specs.Tree.{Forest}
use Rattle.plan.specs.Table.{Table}
use Rattle.plan.specs.Records.{is_insert, is_replace, change, known, located, runs, follows, alone, failing, Alike, Unread}
use Rattle.plan.proofs.Kit.{T_of, T_and, by_place}

by_flag : {P : Type 0} (m : Bool) → (m ≡ true → P) → (m ≡ false → P) → P
by_flag true f g = f refl
by_flag false f g = g refl

module _ (r s : Record) (h : Alike r s) where
  same_kind : known r ≡ known s
  unfolding known
  same_kind = rw h.kind

  module _ (k : T (known r)) where
    abbrev place : r.location ≡ s.location
    place = h.location k

    parent_of : is_insert s ≡ true → r.parent ≡ s.parent
    parent_of e = h.parent (rw h.kind (T_of (is_insert s) e))

    from_of : (is_insert s || is_replace s) ≡ true → r.from ≡ s.from
    from_of e = h.from (rw h.kind (T_of (is_insert s || is_replace s) e))

    same_place : {A : Type 0} (t : Forest A) → located t r ≡ located t s
    unfolding located
    same_place t = rw (h.kind, place) (by_flag (is_insert s) (λ e. rw (parent_of e)) (λ e. rw e))

    same-run : (i : Table) → runs i r ≡ runs i s
    unfolding runs
    same-run i = rw h.kind (by_flag (is_insert s || is_replace s) (λ e. rw (from_of e)) (λ e. rw e))

    same_order : (b : Option Record) → follows b r ≡ follows b s
    unfolding follows
    same_order None = refl
    same_order (Some p) = rw (h.kind, place) (by_flag (is_insert s) (λ e. rw (parent_of e)) (λ e. rw e))

    same-alone : (b : Option Record) → alone b r ≡ alone b s
    unfolding alone
    same-alone None = refl
    same-alone (Some p) = rw (h.kind, place)

    order_behind : (x : Record) → follows (Some r) x ≡ follows (Some s) x
    unfolding follows
    order_behind x = rw (h.kind, place) (by_flag (is_insert s) (λ e. rw (parent_of e)) (λ e. rw e))

    alone-behind : (x : Record) → alone (Some r) x ≡ alone (Some s) x
    unfolding alone
    alone-behind x = rw (h.kind, place)

  -- ---- the meaning
  module _ (i : Table) (k : ℕ) where
    same-delete : r.kind ≡ 1 → T (known r) → change i k r ≡ change i k s
    unfolding change
    same-delete e t = rw (sym h.kind ∙ e, e, h.location t)

    same-insert : r.kind ≡ 2 → T (known r) → change i k r ≡ change i k s
    unfolding change
    same-insert e t = rw (sym h.kind ∙ e, e, h.location t, h.parent (rw e tt), h.from (rw e tt))

    same-rename : r.kind ≡ 3 → T (known r) → change i k r ≡ change i k s
    unfolding change
    same-rename e t = rw (sym h.kind ∙ e, e, h.location t, h.value (rw e tt))

    same-replace : r.kind ≡ 4 → T (known r) → change i k r ≡ change i k s
    unfolding change
    same-replace e t = rw (sym h.kind ∙ e, e, h.location t, h.from (rw e tt))

    same-change : T (known r) → change i k r ≡ change i k s
    unfolding known
    same-change t =
        let w = T_and (leb 1 r.kind) (leb r.kind 4) t in
        let l = leb→le 1 r.kind w.0 in
        let m = leb→le r.kind 4 w.1 in
        by_place r.kind 2 (λ n. same-delete (omega arith) t) (λ e. same-insert e t)
        (λ n.
        by_place r.kind 4 (λ o. same-rename (omega arith) t) (λ e. same-replace e t) (λ o. absurd (omega arith)))

  -- ---- the tests
  same-failing : {A : Type 0} (t : Forest A) (i : Table) (b : Option Record) → failing t i b r ≡ failing t i b s
  unfolding failing
  same-failing t i b =
      by_flag (known s)
      (λ e.
      let k : T (known r) = T_of (known r) (same_kind ∙ e) in
      rw (same_kind, same_place k t, same-run k i, same_order k b, same-alone k b))
      (λ e. rw (same_kind, e))

  behind-failing : {A : Type 0} (t : Forest A) (i : Table) → T (known r) → (x : Record)
      → failing t i (Some r) x ≡ failing t i (Some s) x
  unfolding failing
  behind-failing t i k x = rw (order_behind k x, alone-behind k x)

pub unused_fields : {A : Type 0} (t : Forest A) (i : Table) (r s : Record) → Alike r s → Unread t i r s
unused_fields t i r s h =
    record {
      its_tests = λ b. same-failing r s h t i b;
      next-tests = λ k x. behind-failing r s h t i k x;
      its_meaning = λ k n. same-change r s h i n k;
    }
