-- The root's row is written and open, and the whole list is left: so the pass begins, and the machine starts there.
-- Assumes nothing.
use Prim.Native.Nat.{ℕ, ◌<◌}
use native.Mathlib.Omega.{arith}
use mathlib.Core.Path.{◌≡◌, refl, sym, ap, ◌∙◌, subst}
use mathlib.Core.List.{List, [], ◌∷◌}
use lib.Dec.{T, eqb}
use lib.Seq.{set-set}
use borrow.Author.Tests.{eq-eqb, ne_eqb, eqb-true, eqb-false}
use Rattle.plan.specs.declared.Record.{Record}
use Rattle.std.specs.Prelude.{None}
use Rattle.plan.specs.Table.{Table}
use Rattle.plan.specs.Change.{Change, skip}
use Rattle.plan.specs.Paint.{old, plan}
use Rattle.plan.specs.Records.{known, located, All, PassAll}
use Rattle.plan.specs.Way.{stand}
use Rattle.plan.proofs.Kit.{cond_elim}
use Rattle.pass_moves.proofs.Rows.{table_eq, tall_tree}
use Rattle.pass_moves.specs.Rows.{one_row}
use Rattle.pass_way.specs.Machine.{State, state, value_at, begun}
use Rattle.pass_way.proofs.MachineTable.{start, old-kids_of}
use Rattle.pass_way.specs.Line.{base}
use Rattle.pass.specs.Values.{valued, values}
use Rattle.pass.proofs.Values.{valued-delete, valued-insert, valued-rename, valued-replace}
use Rattle.plan.proofs.FourKinds.{by_kind}
use Rattle.pass.proofs.RecordFacts.{row_named, insert_named, behind-root}
use Rattle.pass_moves.specs.declared.Cursor.{Cursor}
use Rattle.pass_moves.specs.Written.{cursor, rowed}
use Rattle.pass_way.specs.Walk.{state_of}
use Rattle.pass.specs.Asked.{Given}
use Rattle.pass.specs.Underway.{onward, behind_first, Underway}
use Rattle.pass_way.proofs.Grown.{Grown, grown_state, grown_kept, grown_room, rowed_grown}
use Rattle.pass_way.proofs.Chain.{reach_eq}
use Rattle.pass.proofs.Vain.{skip-none}
use Rattle.pass.proofs.Given.{tree_of, reaches, root-room}

module _ {t i : Table} {l : List Record} {w : Table} (A : Given t i l w) where
  -- the root's value, and the cursor and the columns with the root open
  abbrev a : ℕ
  a = value_at t 0

  abbrev first : Cursor
  first = cursor (stand 1 1 0 0) 0 0 0

  abbrev rooted : Table
  rooted = rowed w 0 1 0 a

  root-value : a ≡ (tree_of A).root
  root-value = ap (λ (v : Table). value_at v 0) (tree_of A).is-table

  root_grown : (v : ℕ) → Grown 0 1 (one_row 1 0 v) w (rowed w 0 1 0 v)
  root_grown v = rowed_grown w 0 1 0 v (root-room A)

  root-state : (v : ℕ) (cs : List (Change ℕ)) → state_of (rowed w 0 1 0 v) first (skip 0 0 cs) ≡ begun v cs
  root-state v cs =
      grown_state (root_grown v) first refl (skip 0 0 cs) ∙ ap (state 1 1 0 0 (one_row 1 0 v)) (skip-none cs)

  -- ---- the first record
  module _ (r : Record) (cs : List (Change ℕ)) (k : T (known r)) (h : T (located (plan old t) r)) where
    abbrev Starts : ℕ → List (Change ℕ) → Change ℕ → Type 0
    Starts v ds c = start (tree_of A).root (c ∷ cs) ≡ begun v ds

    away : (r.kind ≡ 2 → ⊥) → (r.kind ≡ 3 → ⊥) → r.location ≡ 0 → ⊥
    away n m z = omega (arith, (row_named (plan old t) r h n).1 m)

    start-root : r.location ≡ 0 → start (tree_of A).root (valued i r ∷ cs) ≡ begun r.value cs
    start-root z =
        by_kind r k (λ e. absurd (away (λ y. omega arith) (λ y. omega arith) z))
        (λ e. absurd (omega (arith, (insert_named (plan old t) r h e).1)))
        (λ e. subst (Starts r.value cs) (sym (valued-rename i r e)) (rw (eq-eqb r.location 0 z)))
        (λ e. absurd (away (λ y. omega arith) (λ y. omega arith) z))

    start-later : (r.location ≡ 0 → ⊥)
        → start (tree_of A).root (valued i r ∷ cs) ≡ begun (tree_of A).root (valued i r ∷ cs)
    start-later n =
        by_kind r k
        (λ e. rw (valued-delete i r e) (rw (ne_eqb r.location 0 n)))
        (λ e. rw (valued-insert i r e) refl)
        (λ e. rw (valued-rename i r e) (rw (ne_eqb r.location 0 n)))
        (λ e. rw (valued-replace i r e) (rw (ne_eqb r.location 0 n)))

  -- ---- the machine starts where the pass begins
  starts : (rs : List Record) → PassAll (plan old t) i None rs
      → onward i (rowed w 0 1 0 (value_at t 0)) (cursor (stand 1 1 0 0) 0 0 0) rs ≡ start (tree_of A).root (values i rs)
  unfolding skip
  starts [] h = root-state a [] ∙ ap (λ (v : ℕ). begun v []) root-value
  starts (r ∷ rs) h =
      cond_elim (λ (s : State). s ≡ start (tree_of A).root (values i (r ∷ rs))) (eqb r.location 0) _ _
      (λ e.
      let s = set-set w.value 0 a r.value in
      ap (λ (u : Table). state_of u first (skip 0 0 (values i rs))) (table_eq refl refl s)
      ∙ (root-state r.value (values i rs)
      ∙ sym (start-root r (values i rs) h.0.kind-known h.0.in_place (eqb-true r.location 0 e))))
      (λ e.
      root-state a (values i (r ∷ rs))
      ∙ (ap (λ (v : ℕ). begun v (values i (r ∷ rs))) root-value
      ∙ sym (start-later r (values i rs) h.0.kind-known h.0.in_place (eqb-false r.location 0 e))))

  past-root : (rs : List Record) → PassAll (plan old t) i None rs → All (λ r. 0 < r.location) (behind_first rs)
  past-root [] h = tt
  past-root (r ∷ rs) h = behind-root (plan old t) i None r rs h

  pub underway-begun : Underway t i l w (rowed w 0 1 0 (value_at t 0)) (cursor (stand 1 1 0 0) 0 0 0) l
  underway-begun =
      record {
        given = A;
        before = None;
        passes = A.passes;
        past-root = past-root l A.passes;
        values = t.value;
        ahead = record { long = refl; later = λ k z. refl; there = λ k y z. absurd (omega arith) };
        coming = λ z. absurd (omega arith);
        stands =
            record {
              left = (tree_of A).kids;
              line = base {i = 1} (omega arith) (old-kids_of (tree_of A)) (omega (arith, (tall_tree (tree_of A)).size));
              behind = omega arith;
              room = grown_room (root_grown a);
            };
        kept = grown_kept (root_grown a);
        reach = reach_eq (starts l A.passes) refl (reaches A);
      }
