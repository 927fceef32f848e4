-- The machine on the table of a tree: from the open root, by a list that fits, to the table of the tree that the list
-- means.
-- Assumes nothing.
use Prim.Native.Nat.{ℕ, suc, ◌+◌, ◌-◌}
use native.Mathlib.Omega.{arith}
use mathlib.Core.Path.{◌≡◌, refl, sym, ap, ◌∙◌, subst}
use mathlib.Core.Bool.{Bool, true, false, cond, ◌&&◌}
use mathlib.Core.List.{List, [], ◌∷◌, append-nil}
use lib.Dec.{T, eqb, eqb→eq}
use lib.ListN.{length}
use borrow.Author.Tests.{eq-eqb}
use Rattle.plan.specs.Tree.{Forest, none, tree, count, sizes}
use Rattle.plan.specs.Table.{Table, table, table_of, TreeOf}
use Rattle.plan.specs.Change.{Act, delete, rename, replace, Change, insert, act, meaning, skip}
use Rattle.plan.specs.Open.{size_at}
use Rattle.plan.proofs.Kit.{false_of}
use Rattle.plan.proofs.Standing.{mine}
use Rattle.plan.proofs.Cut.{Fit}
use Rattle.plan.proofs.Pass.{Out, Pass, arrivals, both, turn, pass}
use Rattle.plan.proofs.Faithful.{pass_meaning}
use Rattle.pass_moves.proofs.Rows.{tall_tree, table_eq, tall_one}
use Rattle.pass_moves.specs.Rows.{one_row}
use Rattle.pass_way.specs.Machine.{State, state, closed, step, Reach, stop, begun, done}
use Rattle.pass_way.proofs.Machine.{state_eq, reach_trans, step_to}
use Rattle.pass_way.proofs.MachineForest.{after, Ready, pass_ready, walks}
use Rattle.pass_way.specs.Line.{Old}

-- ---- the root: it stays, and may get another value
abbrev pub named : Act ℕ → ℕ → ℕ
named delete a = a
named (rename g) a = g a
named (replace s) a = a

abbrev pub renames : Act ℕ → Bool
renames delete = false
renames (rename g) = true
renames (replace s) = false

-- a change at row 0 comes first, and is a rename
abbrev pub rooted : List (Change ℕ) → Bool
rooted [] = true
rooted (insert p q s ∷ cs) = true
rooted (act p x ∷ cs) = cond (eqb p 0) (renames x) true

-- the root with the value a is open, and what would rename it is done
abbrev pub start : ℕ → List (Change ℕ) → State
start a [] = begun a []
start a (insert p q s ∷ cs) = begun a (insert p q s ∷ cs)
start a (act p x ∷ cs) = cond (eqb p 0) (begun (named x a) cs) (begun a (act p x ∷ cs))

-- no change goes in beside the root
no_parent : (m : Bool) (q : ℕ) → T (m && eqb (suc q) 0) → ⊥
no_parent true q h = let z = eqb→eq (suc q) 0 h in omega arith
no_parent false q h = h

arrivals_top : (b : ℕ) (go : Pass ℕ) (cs : List (Change ℕ)) → arrivals b 0 go cs ≡ go cs
unfolding arrivals
arrivals_top b go [] = refl
arrivals_top b go (act p x ∷ cs) = refl
arrivals_top b go (insert p q s ∷ cs) = rw (false_of (mine b 0 (insert p q s)) (λ h. no_parent (eqb p b) q h))

none-top : (b : ℕ) (es : List (Change ℕ)) → pass b 0 none es ≡ (none, es)
unfolding pass
none-top b es = arrivals_top b (λ ds. (none, ds)) es

-- a root with the value c, and what the pass makes of its children
abbrev rooting : ℕ → Out ℕ → Out ℕ
rooting c y = (tree c y.0 none, y.1)

both_top : (c : ℕ) (k : Forest ℕ) (cs : List (Change ℕ))
    → both c (λ es. pass 1 1 k es) (λ es. pass (1 + count k) 0 none es) cs ≡ rooting c (pass 1 1 k cs)
both_top c k cs = rw (none-top (1 + count k) (pass 1 1 k cs).1)

pass_top : (a : ℕ) (k : Forest ℕ) (cs : List (Change ℕ))
    → pass 0 0 (tree a k none) cs
    ≡ turn 0 a (skip 0 (1 + count k)) (λ es. pass 1 1 k es) (λ es. pass (1 + count k) 0 none es) cs
unfolding pass
pass_top a k cs =
    arrivals_top 0 (turn 0 a (skip 0 (1 + count k)) (λ es. pass 1 1 k es) (λ es. pass (1 + count k) 0 none es)) cs

-- the value that the root gets, and the changes behind that
record Opened (a : ℕ) (k : Forest ℕ) (cs : List (Change ℕ)) : Type 0 where
  c : ℕ
  ds : List (Change ℕ)
  starts : start a cs ≡ begun c ds
  gives : pass 0 0 (tree a k none) cs ≡ rooting c (pass 1 1 k ds)

opened-act : (a : ℕ) (k : Forest ℕ) (p : ℕ) (x : Act ℕ) (cs : List (Change ℕ)) (m : Bool) → eqb p 0 ≡ m
    → T (cond m (renames x) true) → Opened a k (act p x ∷ cs)
opened-act a k p delete cs true w h = absurd h
opened-act a k p (rename g) cs true w h =
    record {
      c = g a;
      ds = cs;
      starts = rw w;
      gives = pass_top a k (act p (rename g) ∷ cs) ∙ rw w (both_top (g a) k cs);
    }
opened-act a k p (replace s) cs true w h = absurd h
opened-act a k p x cs false w h =
    record {
      c = a;
      ds = act p x ∷ cs;
      starts = rw w;
      gives = pass_top a k (act p x ∷ cs) ∙ rw w (both_top a k (act p x ∷ cs));
    }

opened : (a : ℕ) (k : Forest ℕ) (cs : List (Change ℕ)) → T (rooted cs) → Opened a k cs
opened a k [] h = record { c = a; ds = []; starts = refl; gives = pass_top a k [] ∙ both_top a k [] }
opened a k (insert p q s ∷ cs) h =
    record {
      c = a;
      ds = insert p q s ∷ cs;
      starts = refl;
      gives = pass_top a k (insert p q s ∷ cs) ∙ both_top a k (insert p q s ∷ cs);
    }
opened a k (act p x ∷ cs) h = opened-act a k p x cs (eqb p 0) refl h

abbrev finished : ℕ → Out ℕ → State
finished n y = state n (count y.0) 0 0 (table_of y.0) y.1

-- ---- the machine on the table of a tree
module _ (a : ℕ) (k : Forest ℕ) where
  abbrev t : Table
  t = table_of (tree a k none)

  old-top : Old t 1 0 k
  old-top = record { behind = table [] [] []; is = refl }

  close_top : (o : ℕ) (u : Table) (cs : List (Change ℕ)) → Ready (1 + count k) 1 cs
      → step t (state (1 + count k) o 0 0 u cs) ≡ closed t (state (1 + count k) o 0 0 u cs)
  unfolding step
  close_top o u [] h = rw (eq-eqb (1 + count k) (0 + suc (count k)) (omega arith))
  close_top o u (act p x ∷ cs) h = rw (eq-eqb (1 + count k) (0 + suc (count k)) (omega arith))
  close_top o u (insert p q s ∷ cs) h = rw (h, eq-eqb (1 + count k) (0 + suc (count k)) (omega arith))

  ends-top : (c : ℕ) (y : Out ℕ)
      → closed t (after (1 + count k) 1 0 0 (one_row 1 0 c) y) ≡ finished (1 + count k) (rooting c y)
  ends-top c y =
      let e : 1 + count y.0 - 0 ≡ suc (count y.0) = omega arith in
      state_eq refl (omega arith) refl refl
      (table_eq (rw append-nil) (rw (append-nil (sizes y.0), e)) (rw append-nil))

  from-begun : (c : ℕ) (cs : List (Change ℕ))
      → Reach t (begun c cs) (finished (1 + count k) (rooting c (pass 1 1 k cs)))
  from-begun c cs =
      let y : Out ℕ = pass 1 1 k cs in
      reach_trans t
      (walks t 1 0 k (omega arith) old-top (omega arith) 0 1 (one_row 1 0 c) cs (tall_one 1 0 c, omega arith))
      (step_to t (close_top (1 + count y.0) _ y.1 (pass_ready 1 1 (1 + count k) k refl cs) ∙ ends-top c y) stop)

  reaches : (cs : List (Change ℕ)) → Fit 0 0 (tree a k none) cs → T (rooted cs)
      → Reach t (start a cs) (done (1 + count k) (meaning cs (tree a k none)))
  reaches cs h r =
      let w = opened a k cs r in
      let n : ℕ = 1 + count k in
      rw (w.starts, ← ap (finished n) (pass_meaning (tree a k none) cs h), w.gives) (from-begun w.c w.ds)

-- ---- on a sound table
pub record Root (f : Forest ℕ) : Type 0 where
  pub root : ℕ
  pub kids : Forest ℕ
  pub is : f ≡ tree root kids none

done-fixed : (t : Table) (n a : ℕ) (k : Forest ℕ) → n ≡ size_at t 0
    → step t (done n (tree a k none)) ≡ done n (tree a k none)
unfolding step
done-fixed t n a k e =
    let z : suc (count k + 0) - 0 ≡ suc (count k) = omega arith in
    rw (eq-eqb n (0 + size_at t 0) (omega arith))
    (state_eq refl refl (omega arith) refl (table_eq refl (rw z) refl))

module _ {t : Table} (h : TreeOf t) where
  abbrev whole : Forest ℕ
  whole = tree h.root h.kids none

  height : length t.size ≡ suc (count h.kids)
  height = (tall_tree h).size

  pub root-size : size_at t 0 ≡ length t.size
  root-size = ap (λ (v : Table). size_at v 0) h.is-table ∙ sym height

  pub old-kids_of : Old t 1 0 h.kids
  old-kids_of = subst (λ (v : Table). Old v 1 0 h.kids) (sym h.is-table) (old-top h.root h.kids)

  module _ (cs : List (Change ℕ)) (fit : Fit 0 0 (tree h.root h.kids none) cs) (r : T (rooted cs)) where
    -- the result is one tree
    pub root_stays : Root (meaning cs whole)
    root_stays =
        let w = opened h.root h.kids cs r in
        record {
          root = w.c;
          kids = (pass 1 1 h.kids w.ds).0;
          is = ap (λ (y : Out ℕ). y.0) (sym (pass_meaning whole cs fit) ∙ w.gives);
        }

    -- the machine comes to it, and stops
    pub machine_reaches : Reach t (start h.root cs) (done (length t.size) (meaning cs whole))
    machine_reaches =
        let m : ℕ = 1 + count h.kids in
        let e : length t.size ≡ m = height ∙ omega arith in
        subst (λ (n : ℕ). Reach t (start h.root cs) (done n (meaning cs whole))) (sym e)
        (subst (λ (v : Table). Reach v (start h.root cs) (done m (meaning cs whole))) (sym h.is-table)
        (reaches h.root h.kids cs fit r))

    pub machine_stops : step t (done (length t.size) (meaning cs whole)) ≡ done (length t.size) (meaning cs whole)
    machine_stops =
        let w = root_stays in
        subst (λ (f : Forest ℕ). step t (done (length t.size) f) ≡ done (length t.size) f) (sym w.is)
        (done-fixed t (length t.size) w.root w.kids (sym root-size))
