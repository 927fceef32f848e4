-- A record is taken where it is due: by one step of the machine.
-- Assumes nothing.
use Prim.Native.Nat.{ℕ, suc, ◌+◌, ◌-◌, ◌≤◌, ◌<◌}
use native.Mathlib.Omega.{arith}
use native.Mathlib.Nat.{add-zero}
use mathlib.Core.Path.{◌≡◌, refl, sym, ap, ◌∙◌, subst}
use mathlib.Core.Bool.{true, false, cond}
use mathlib.Core.List.{List, ◌∷◌}
use lib.Dec.{T}
use lib.ListN.{length}
use borrow.Author.Tests.{eq-eqb, ne_eqb}
use Rattle.plan.specs.declared.Record.{Record}
use Rattle.plan.specs.declared.Stand.{Stand}
use Rattle.plan.specs.Tree.{Forest, none, tree, count}
use Rattle.plan.specs.Table.{Table, run, TreeOf}
use Rattle.plan.specs.Change.{Act, delete, replace, Change, insert, act, skip}
use Rattle.plan.specs.Records.{is_insert, is_replace, known, runs}
use Rattle.plan.specs.Way.{has_run, removes_rows, brought, taken_from, goes_on_at, stand}
use Rattle.plan.specs.Open.{dist_at, size_at}
use Rattle.plan.proofs.Kit.{or_left, or_right, eq→eqb}
use Rattle.plan.proofs.Readback.{read_back}
use Rattle.pass_moves.specs.Rows.{rows, first_rows, later_rows, Room}
use Rattle.pass_moves.proofs.Rows.{room_less, none-behind}
use Rattle.pass_way.specs.Machine.{State, pasted, changed, step, Reach, stop}
use Rattle.pass_way.proofs.Machine.{state_eq, step_to}
use Rattle.pass_way.proofs.Line.{Child, line-next, line_same, line_at, line-child, not_end}
use Rattle.pass.specs.Values.{plain, valued}
use Rattle.pass.proofs.Values.{valued-delete, valued-insert, valued-replace}
use Rattle.plan.proofs.FourKinds.{by_kind}
use Rattle.pass.proofs.RecordFacts.{RunOf, run_of}
use Rattle.pass_moves.specs.declared.Cursor.{Cursor}
use Rattle.pass_moves.specs.Written.{row, out, cursor, laid, Pastes}
use Rattle.pass_way.specs.Walk.{state_of, Stands, Ends, Kept}
use Rattle.pass.specs.Taking.{Under, Brings, with_run}
use Rattle.pass.specs.Underway.{still_to_come}
use Rattle.pass_way.proofs.Grown.{Grown, grown_state, grown_kept, grown_room, grown_below, laid_grown}
use Rattle.pass_way.proofs.Chain.{reach_eq, kept-none}
use Rattle.pass.proofs.Vain.{skip-none}
use Rattle.pass_way.proofs.Steps.{plainly, as_state, Fits, fits}

-- it is due, and no rename: its place is reached
pub record Due (t i u : Table) (c : Cursor) (r : Record) : Type 0 where
  pub tree_of : TreeOf t
  pub stands : Stands t u c
  pub kind-known : T (known r)
  pub no_rename : r.kind ≡ 3 → ⊥
  pub run_sound : T (runs i r)
  pub there : (r.kind ≡ 2 → ⊥) → r.location < length t.size
  pub here : row c ≡ r.location
  pub under : Under t.dist r c.parent.0
  pub none_ahead : c.valued.0 ≤ row c
  pub left : List (Change ℕ)
  pub ends : Ends t u c (valued i r ∷ left)

pub record Done (t i u : Table) (c : Cursor) (r : Record) (u' : Table) (c' : Cursor) : Type 0 where
  pub reach : (cs : List (Change ℕ)) → Reach t (state_of u c (valued i r ∷ cs)) (state_of u' c' (still_to_come c' cs))
  pub stands : Stands t u' c'
  pub kept : Kept (out c') u u'
  pub grows : out c ≤ out c'
  pub none_ahead : c'.valued.0 ≤ row c'

-- ---- the machine's step
module _ (t u : Table) (c : Cursor) (cs : List (Change ℕ)) where
  insert-step : (p q : ℕ) (f : Forest ℕ) → row c ≡ p → c.parent.0 ≡ q
      → step t (plainly u c (insert p q f ∷ cs)) ≡ pasted (plainly u c (insert p q f ∷ cs)) f (row c) cs
  unfolding step
  insert-step p q f e w = rw (eq-eqb p (row c) (sym e), eq-eqb (suc q) (suc c.parent.0) (ap suc (sym w)))

  act-step : (p : ℕ) (x : Act ℕ) → row c ≡ p → (row c ≡ c.parent.0 + size_at t c.parent.0 → ⊥)
      → step t (plainly u c (act p x ∷ cs)) ≡ changed t (plainly u c (act p x ∷ cs)) x cs
  unfolding step
  act-step p x e n = rw (ne_eqb (row c) (c.parent.0 + size_at t c.parent.0) n, eq-eqb p (row c) (sym e))

-- ---- a run
module _ {i : Table} {f : ℕ} (R : RunOf i f) where
  abbrev pub run_tree : Forest ℕ
  run_tree = tree R.root R.kids none

  run-plain : plain (run i f) ≡ run_tree
  run-plain = ap plain R.rows_are ∙ read_back run_tree

  run-rows : first_rows (size_at i f) (later_rows f i) ≡ rows 1 run_tree
  unfolding run
  run-rows = R.rows_are

  run_grown : {u : Table} (at d : ℕ) → Room (at + size_at i f) u
      → Grown at (size_at i f) (rows d run_tree) u (laid u at i f (size_at i f) d)
  run_grown {u} at d r = laid_grown u at i f (size_at i f) d 1 R.root R.kids r run-rows R.size

  -- the run is written next
  run-count : (n : ℕ) → n + count run_tree ≡ n + size_at i f
  run-count n = omega (arith, R.size)

-- ---- the columns with its run
module _ (i u : Table) (c : Cursor) (r : Record) (n : ℕ) where
  pub no_run : has_run r ≡ false → u ≡ with_run i u c r n
  unfolding with_run
  no_run h = rw h

  pub a_run : {v : Table} → has_run r ≡ true → v ≡ laid u (out c) i r.from n (out c - c.under.0)
      → v ≡ with_run i u c r n
  unfolding with_run
  a_run h e = rw h e

-- ---- whether it brings a run, and takes rows away, by its kind
module _ (r : Record) where
  delete-kind : r.kind ≡ 1 → (has_run r ≡ false) × (removes_rows r ≡ true)
  delete-kind k =
      let z = ne_eqb r.kind 2 (λ e. omega arith) in
      let y = ne_eqb r.kind 4 (λ e. omega arith) in
      (rw (z, y), rw (eq-eqb r.kind 1 k))

  insert-kind : r.kind ≡ 2 → (has_run r ≡ true) × (removes_rows r ≡ false)
  insert-kind k =
      let z = ne_eqb r.kind 1 (λ e. omega arith) in
      let y = ne_eqb r.kind 4 (λ e. omega arith) in
      (rw (eq-eqb r.kind 2 k), rw (z, y))

  pub no_insert : T (removes_rows r) → r.kind ≡ 2 → ⊥
  no_insert h k = subst T (insert-kind k).1 h

  replace-kind : r.kind ≡ 4 → (has_run r ≡ true) × (removes_rows r ≡ true)
  replace-kind k =
      let z = ne_eqb r.kind 2 (λ e. omega arith) in
      let y = ne_eqb r.kind 1 (λ e. omega arith) in
      (rw (z, eq-eqb r.kind 4 k), rw (y, eq-eqb r.kind 4 k))

module _ {t i u : Table} {c : Cursor} {r : Record} (X : Due t i u c r) where
  -- the end, from the change h that the record means
  ends_as : {h : Change ℕ} → valued i r ≡ h → Ends t u c (h ∷ X.left)
  ends_as e = subst (λ (h : Change ℕ). Ends t u c (h ∷ X.left)) e X.ends

  -- one step, when the record means h
  reach_as : {h : Change ℕ} {s v : State} (cs : List (Change ℕ)) → valued i r ≡ h → step t (plainly u c (h ∷ cs)) ≡ s
      → v ≡ s → Reach t (state_of u c (valued i r ∷ cs)) v
  reach_as {h} cs e w v =
      reach_eq (ap (λ (x : Change ℕ). state_of u c (x ∷ cs)) e ∙ as_state u c (h ∷ cs)) v (step_to t w stop)

  behind : c.under.0 < out c
  behind = X.stands.behind

  abbrev d : ℕ
  d = out c - c.under.0

  -- where the pass stands behind the record
  abbrev pub next : Stand
  next =
      let e = goes_on_at t.size r in
      stand e (out c + brought i.size r) (taken_from r) (cond (removes_rows r) e 0)

  abbrev pub at : Stand → Cursor
  at s = cursor s c.parent.0 c.under.0 c.valued.0

  as_done : {v w : Table} {s s' : Stand} → v ≡ w → s ≡ s' → Done t i u c r w (at s') → Done t i u c r v (at s)
  as_done e w h = rw (e, w) h

  -- ---- insert
  module _ (k : r.kind ≡ 2) where
    insert-run : RunOf i r.from
    insert-run = run_of i r X.run_sound (or_left (is_insert r) (is_replace r) (eq→eqb r.kind 2 k))

    abbrev n : ℕ
    n = size_at i r.from

    abbrev f : Forest ℕ
    f = run_tree insert-run

    abbrev inserting : Change ℕ
    inserting = insert r.location r.parent f

    means_insert : valued i r ≡ inserting
    means_insert = valued-insert i r k ∙ ap (insert r.location r.parent) (run-plain insert-run)

    inserts : (cs : List (Change ℕ))
        → step t (plainly u c (inserting ∷ cs)) ≡ pasted (plainly u c (inserting ∷ cs)) f (row c) cs
    inserts cs = insert-step t u c cs r.location r.parent f X.here (sym (X.under.insert k))

    insert_fits : Fits u (out c + count f)
    insert_fits = fits (ends_as means_insert) _ (step_to t (inserts X.left) stop)

    can_insert : Pastes i r.from n u c
    can_insert =
        record {
          some = omega (arith, insert-run.size);
          there = insert-run.room;
          behind = behind;
          room = room_less (omega (arith, insert-run.size)) insert_fits.room;
        }

    abbrev inserted : Table
    inserted = laid u (out c) i r.from n d

    abbrev after-insert : Cursor
    after-insert = at (stand (row c) (out c + n) 0 0)

    insert_grown : Grown (out c) n (rows d f) u inserted
    insert_grown = run_grown insert-run (out c) d can_insert.room

    insert-done : Done t i u c r inserted after-insert
    insert-done =
        let g = insert_grown in
        record {
          reach =
              λ cs.
              reach_as cs means_insert (inserts cs)
              (ap (state_of inserted after-insert) (skip-none cs)
              ∙ (grown_state g after-insert refl cs
              ∙ state_eq refl (sym (run-count insert-run (out c))) refl refl refl));
          stands =
              record {
                left = X.stands.left;
                line = line_same inserted (λ z w. grown_below g z (omega (arith, behind))) X.stands.line;
                behind = omega (arith, behind);
                room = grown_room g;
              };
          kept = grown_kept g;
          grows = omega arith;
          none_ahead = X.none_ahead;
        }

    insert-next : next ≡ stand (row c) (out c + n) 0 0
    insert-next =
        let z : r.location + 0 ≡ row c = omega (arith, X.here) in
        rw ((insert-kind r k).0, (insert-kind r k).1) (λ w. stand (z w) (out c + n) 0 0)

    done-insert : Done t i u c r (with_run i u c r (brought i.size r)) (at next)
    unfolding with_run
    done-insert = as_done (rw (insert-kind r k).0) insert-next insert-done

  -- ---- the other kinds: the next row is a child of the open row
  module _ (k : r.kind ≡ 2 → ⊥) where
    ne : row c ≡ c.parent.0 + size_at t c.parent.0 → ⊥
    ne =
        let e : row c ≡ c.parent.0 + dist_at t (row c) =
        subst (λ (x : ℕ). x ≡ c.parent.0 + dist_at t x) (sym X.here) (X.under.other k) in
        not_end X.tree_of X.stands.line e (omega (arith, X.here, X.there k))

    child : Child t u (row c) c.parent.0 c.under.0
    child = line-child X.tree_of X.stands.line ne

    acts : (x : Act ℕ) (cs : List (Change ℕ))
        → step t (plainly u c (act r.location x ∷ cs)) ≡ changed t (plainly u c (act r.location x ∷ cs)) x cs
    acts x cs = act-step t u c cs r.location x X.here ne

    abbrev m : ℕ
    m = size_at t (row c)

    -- the row is left out
    abbrev left_out : Cursor
    left_out = at (stand (row c + m) (out c) (row c) (row c + m))

    -- ---- delete
    module _ (k1 : r.kind ≡ 1) where
      delete-done : Done t i u c r u left_out
      delete-done =
          record {
            reach =
                λ cs.
                reach_as cs (valued-delete i r k1) (acts delete cs)
                (as_state u left_out (skip (row c) (row c + m) cs)
                ∙ state_eq refl (sym (add-zero (out c))) refl refl (sym (none-behind (first_rows (out c) u) d)));
            stands =
                record {
                  left = child.rest;
                  line = line_at (omega (arith, child.size)) refl refl (line-next child.line);
                  behind = behind;
                  room = X.stands.room;
                };
            kept = kept-none (out c) u;
            grows = omega arith;
            none_ahead = omega (arith, X.none_ahead);
          }

      delete-next : next ≡ stand (row c + m) (out c) (row c) (row c + m)
      delete-next =
          let h = sym X.here in
          rw ((delete-kind r k1).0, (delete-kind r k1).1)
          (λ w. stand (h w + size_at t (h w)) (add-zero (out c) w) (h w) (h w + size_at t (h w)))

      done-delete : Done t i u c r (with_run i u c r (brought i.size r)) (at next)
      unfolding with_run
      done-delete = as_done (rw (delete-kind r k1).0) delete-next delete-done

    -- ---- replace
    module _ (is-replace : r.kind ≡ 4) where
      replace-run : RunOf i r.from
      replace-run = run_of i r X.run_sound (or_right (is_insert r) (is_replace r) (eq→eqb r.kind 4 is-replace))

      abbrev n' : ℕ
      n' = size_at i r.from

      means_replace : valued i r ≡ act r.location (replace (run_tree replace-run))
      means_replace =
          valued-replace i r is-replace ∙ ap (λ (f : Forest ℕ). act r.location (replace f)) (run-plain replace-run)

      replace_fits : Fits u (out c + count (run_tree replace-run))
      replace_fits = fits (ends_as means_replace) _ (step_to t (acts (replace (run_tree replace-run)) X.left) stop)

      can_replace : Pastes i r.from n' u c
      can_replace =
          record {
            some = omega (arith, replace-run.size);
            there = replace-run.room;
            behind = behind;
            room = room_less (omega (arith, replace-run.size)) replace_fits.room;
          }

      abbrev replaced : Table
      replaced = laid u (out c) i r.from n' d

      abbrev after-replace : Cursor
      after-replace = at (stand (row c + m) (out c + n') (row c) (row c + m))

      replace_grown : Grown (out c) n' (rows d (run_tree replace-run)) u replaced
      replace_grown = run_grown replace-run (out c) d can_replace.room

      replace-done : Done t i u c r replaced after-replace
      replace-done =
          let g = replace_grown in
          record {
            reach =
                λ cs.
                reach_as cs means_replace (acts (replace (run_tree replace-run)) cs)
                (grown_state g after-replace refl (skip (row c) (row c + m) cs)
                ∙ state_eq refl (sym (run-count replace-run (out c))) refl refl refl);
            stands =
                record {
                  left = child.rest;
                  line =
                      line_at (omega (arith, child.size)) refl refl
                      (line-next (line_same replaced (λ z w. grown_below g z (omega (arith, behind))) child.line));
                  behind = omega (arith, behind);
                  room = grown_room g;
                };
            kept = grown_kept g;
            grows = omega arith;
            none_ahead = omega (arith, X.none_ahead);
          }

      replace-next : next ≡ stand (row c + m) (out c + n') (row c) (row c + m)
      replace-next =
          let h = sym X.here in
          rw ((replace-kind r is-replace).0, (replace-kind r is-replace).1)
          (λ w. stand (h w + size_at t (h w)) (out c + n') (h w) (h w + size_at t (h w)))

      done-replace : Done t i u c r (with_run i u c r (brought i.size r)) (at next)
      unfolding with_run
      done-replace = as_done (rw (replace-kind r is-replace).0) replace-next replace-done

  -- ---- whatever its kind is
  pub can_bring : Brings i u c r (brought i.size r)
  can_bring h =
      by_kind r X.kind-known (λ k. absurd (subst T (delete-kind r k).0 h))
      (λ k. rw (insert-kind r k).0 (can_insert k)) (λ k. absurd (X.no_rename k))
      (λ k. rw (replace-kind r k).0 (can_replace (λ z. omega arith) k))

  pub done : Done t i u c r (with_run i u c r (brought i.size r)) (at next)
  done =
      by_kind r X.kind-known (λ k. done-delete (λ z. omega arith) k) done-insert (λ k. absurd (X.no_rename k))
      (λ k. done-replace (λ z. omega arith) k)
