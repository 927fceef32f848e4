-- What is given, and the way of the machine on it: from the open root to the columns of the result, where it stops.
-- Assumes nothing.
use Prim.Native.Nat.{ℕ, ◌+◌, ◌≤◌, ◌<◌}
use native.Mathlib.Omega.{arith}
use mathlib.Core.Path.{◌≡◌, refl, sym, ap, ◌∙◌, subst}
use mathlib.Core.List.{List}
use lib.Dec.{T, eqb, eqb→eq}
use lib.ListN.{length, get_or}
use Rattle.plan.specs.declared.Record.{Record}
use Rattle.std.specs.Prelude.{None}
use Rattle.plan.specs.Tree.{Forest, none, tree, count, relabel}
use Rattle.plan.specs.Table.{Table, even, TreeOf}
use Rattle.plan.specs.Change.{Change, meaning}
use Rattle.plan.specs.Paint.{old, plan, bare}
use Rattle.plan.specs.Call.{result}
use Rattle.plan.specs.Open.{size_at}
use Rattle.plan.proofs.Kit.{T_and}
use Rattle.plan.proofs.Columns.{count-relabel}
use Rattle.plan.proofs.Rows.{below_fits, size-at}
use Rattle.plan.proofs.Sound.{sound-tree}
use Rattle.plan.proofs.Cut.{Fit}
use Rattle.pass_moves.specs.Rows.{Room}
use Rattle.pass_way.specs.Machine.{value_at, step, Reach, done}
use Rattle.pass_way.specs.Walk.{valuing, state_of, Ends, Kept}
use Rattle.pass.proofs.ValuesAhead.{step_same}
use Rattle.pass_way.proofs.MachineTable.{rooted, start, root_stays, machine_reaches, machine_stops}
use Rattle.pass_moves.proofs.Rows.{tall_tree}
use Rattle.pass.specs.Values.{values}
use Rattle.pass.proofs.Values.{plan-plain, plain-tree, result-plain, values_fit}
use Rattle.pass.proofs.RecordFacts.{values_rooted}
use Rattle.pass_moves.specs.declared.Cursor.{Cursor}
use Rattle.pass.specs.Asked.{Given}
use Rattle.pass.specs.Underway.{goal}
use Rattle.pass_way.proofs.Chain.{room-kept}

even-room : (w : Table) (n : ℕ) → T (even w) → n ≤ length w.size → Room n w
unfolding even
even-room w n h l =
    let e = T_and (eqb (length w.dist) (length w.size)) (eqb (length w.value) (length w.size)) h in
    let d = eqb→eq (length w.dist) (length w.size) e.0 in
    let v = eqb→eq (length w.value) (length w.size) e.1 in
    record { dist = omega arith; size = l; value = omega arith }

-- the painted tree has the table's rows
pub count-plan : {t : Table} → TreeOf t → count (plan old t) ≡ length t.size
count-plan {t} h =
    sym (count-relabel bare (plan old t))
    ∙ (ap count (plan-plain old t ∙ plain-tree h) ∙ omega (arith, (tall_tree h).size))

-- a row's subtree ends within the table
pub row_ends : {t : Table} (h : TreeOf t) (r : ℕ) → r < length t.size → r + size_at t r ≤ length t.size
row_ends {t} h r l =
    let f : Forest ℕ = tree h.root h.kids none in
    let e = (tall_tree h).size in
    let s = ap (λ (v : Table). size_at v r) h.is-table ∙ size-at f r (omega arith) in
    omega (arith, below_fits f r (omega arith))

module _ {t i : Table} {l : List Record} {w : Table} (A : Given t i l w) where
  pub tree_of : TreeOf t
  tree_of = sound-tree t A.table-sound

  whole : Forest ℕ
  whole = tree tree_of.root tree_of.kids none

  fit : Fit 0 0 (tree tree_of.root tree_of.kids none) (values i l)
  fit = subst (λ (f : Forest ℕ). Fit 0 0 f (values i l)) (plain-tree tree_of) (values_fit t i l A.passes)

  root-first : T (rooted (values i l))
  root-first = values_rooted (plan old t) i None l A.passes

  result-is : relabel bare (result t i l) ≡ meaning (values i l) (tree tree_of.root tree_of.kids none)
  result-is = result-plain t i l ∙ ap (meaning (values i l)) (plain-tree tree_of)

  pub reaches : Reach t (start tree_of.root (values i l)) (goal t i l)
  reaches =
      subst (λ (f : Forest ℕ). Reach t (start tree_of.root (values i l)) (done (length t.size) f)) (sym result-is)
      (machine_reaches tree_of (values i l) fit root-first)

  pub stops : step t (goal t i l) ≡ goal t i l
  stops =
      subst (λ (f : Forest ℕ). step t (done (length t.size) f) ≡ done (length t.size) f) (sym result-is)
      (machine_stops tree_of (values i l) fit root-first)

  pub rows_are : count (relabel bare (result t i l)) ≡ count (result t i l)
  rows_are = count-relabel bare (result t i l)

  -- there is room for the result, and it has a root
  pub result-room : Room (count (relabel bare (result t i l))) w
  result-room = even-room w (count (relabel bare (result t i l))) A.even-new (omega (arith, rows_are, A.room))

  pub root-room : Room 1 w
  root-room =
      let e = ap count (result-is ∙ (root_stays tree_of (values i l) fit root-first).is) in
      even-room w 1 A.even-new (omega (arith, rows_are, A.room, e))

  -- from where the machine goes on to the result, it ends
  pub given-ends : {u : Table} {c : Cursor} {n : ℕ} {cs : List (Change ℕ)} → Kept n w u
      → Reach t (state_of u c cs) (goal t i l) → Ends t u c cs
  given-ends k r =
      record {
        target = goal t i l;
        reach = r;
        none_left = refl;
        fixed = stops;
        few = omega (arith, rows_are, A.few);
        room = room-kept k result-room;
      }

  -- and so on the table with the values v
  module _ (v : List ℕ) (e : get_or v (length t.size) 0 ≡ value_at t (length t.size)) where
    pub stops_on : step (valuing t v) (goal t i l) ≡ goal t i l
    stops_on = step_same t v (goal t i l) e ∙ stops

    pub given-ends-on : {u : Table} {c : Cursor} {n : ℕ} {cs : List (Change ℕ)} → Kept n w u
        → Reach (valuing t v) (state_of u c cs) (goal t i l) → Ends (valuing t v) u c cs
    given-ends-on k r =
        record {
          target = goal t i l;
          reach = r;
          none_left = refl;
          fixed = stops_on;
          few = omega (arith, rows_are, A.few);
          room = room-kept k result-room;
        }
