-- The end: the rows behind the last record are written, and the root is closed. The machine has stopped at the columns
-- of the result, so these are the first rows of the new columns.
-- Assumes nothing.
use Prim.Native.Nat.{ℕ, ◌+◌, ◌≤◌, ◌<◌}
use native.Mathlib.Omega.{arith}
use mathlib.Core.Path.{◌≡◌, refl, sym, ap, ◌∙◌}
use mathlib.Core.List.{List, []}
use lib.ListN.{length, get_or}
use lib.Seq.{take-set-lt, drop-set-lt, set-set}
use borrow.Author.Tests.{eq-eqb}
use Rattle.plan.specs.declared.Record.{Record}
use Rattle.plan.specs.Tree.{sizes, relabel}
use Rattle.plan.specs.Table.{Table, TreeOf}
use Rattle.plan.specs.Paint.{bare, written}
use Rattle.plan.specs.Call.{result}
use Rattle.plan.specs.Open.{size_at}
use Rattle.plan.proofs.Columns.{length-sizes}
use Rattle.pass_moves.proofs.Rows.{table_eq, first-later, tall_tree}
use Rattle.pass_moves.specs.Rows.{◌⧺◌, first_rows, later_rows}
use Rattle.pass_way.specs.Machine.{State, state, value_at, sized, step, Reach, stop}
use Rattle.pass_way.proofs.Machine.{state_eq, step_to, join, reach-fixed}
use Rattle.plan.proofs.Kit.{by_side}
use Rattle.pass_way.specs.Walk.{valuing, state_of, Ends, Ready, Readied, Carried}
use Rattle.pass_way.proofs.Revalued.{tree-valued}
use Rattle.pass_way.proofs.MachineTable.{root-size}
use Rattle.pass_way.proofs.Line.{line-root, line-end}
use Rattle.pass_moves.specs.declared.Cursor.{Cursor}
use Rattle.pass_moves.specs.Written.{row, out}
use Rattle.pass.specs.Asked.{Answered}
use Rattle.pass.specs.Underway.{goal, Underway, Last, Copied}
use Rattle.pass_way.proofs.Chain.{reach_eq, kept-none, kept_trans}
use Rattle.pass_way.proofs.Steps.{as_state}
use Rattle.pass.proofs.Given.{tree_of, stops_on, rows_are, given-ends-on}

-- the root is closed, as often as one likes
closes : {t : Table} → TreeOf t → (o : ℕ) (v : Table)
    → step t (state (length t.size) o 0 0 v []) ≡ state (length t.size) o 0 0 (sized v 0 o) []
unfolding step
closes {t} h o v =
    rw (eq-eqb (length t.size) (0 + size_at t 0) (omega (arith, root-size h)))
    (state_eq refl refl (omega arith) (omega arith) (ap (sized v 0) (omega arith)))

-- ---- steps behind the last record, one after the other
module _ {t u : Table} {c : Cursor} where
  pub last_on : {u' : Table} {c' : Cursor} → Last t u c → Copied t u c u' c' → Last t u' c'
  last_on l k =
      record {
        insertions = l.insertions;
        list = l.list;
        new = l.new;
        underway = k.still l.insertions l.list l.new l.underway;
      }

  pub copied_trans : {u' u'' : Table} {c' c'' : Cursor} → Copied t u c u' c' → Copied t u' c' u'' c''
      → Copied t u c u'' c''
  copied_trans a b =
      record {
        still = λ i l w U. b.still i l w (a.still i l w U);
        dist = b.dist ∙ a.dist;
        size = b.size ∙ a.size;
        value = b.value ∙ a.value;
      }

module _ {t i : Table} {l : List Record} {w u : Table} {c : Cursor} (U : Underway t i l w u c []) where
  abbrev n : ℕ
  n = length t.size

  abbrev g : Table
  g = valuing t U.values

  pub row_most : row c ≤ length t.size
  row_most = omega (arith, line-end U.stands.line)

  pub valued_most : c.valued.0 ≤ length t.size
  valued_most = by_side (row c) c.valued.0 (λ h. (U.coming h).0) (λ h. omega (arith, row_most))

  pub at_last : get_or U.values (length t.size) 0 ≡ value_at t (length t.size)
  at_last = U.ahead.later (length t.size) valued_most

  pub tree-on : TreeOf (valuing t U.values)
  tree-on = tree-valued U.values U.ahead.long (tree_of U.given)

  pub ends : Ends (valuing t U.values) u c []
  ends = given-ends-on U.given U.values at_last U.kept U.reach

  pub rows-low : length t.size < 4294967296
  rows-low = let h = tree_of U.given in omega (arith, (tall_tree h).size, h.few)

  pub few-rows : length t.size ≤ 65535
  few-rows = let h = tree_of U.given in omega (arith, (tall_tree h).size, h.few)

  pub ready : Ready (valuing t U.values) u c (length t.size) 0
  ready = record { tree_of = tree-on; stands = U.stands; left = []; aim = (refl, refl); ends = ends }

  pub to_the_end : Readied t u c (length t.size) 0
  to_the_end = record { values = U.values; ahead = U.ahead; ready = ready }

  -- the pass has moved on
  pub moved_on : {u' : Table} {k : Cursor} → Carried t U.values u c (length t.size) 0 u' k
      → Underway t i l w u' k []
  moved_on {u'} {k} C =
      let m = C.moved in
      let s = C.same in
      let y = C.level in
      let z = C.onward in
      record {
        given = U.given;
        before = U.before;
        passes = tt;
        past-root = tt;
        values = U.values;
        ahead = C.ahead;
        coming = λ h. (omega (arith, valued_most), tt);
        stands = m.stands;
        kept = kept_trans (omega arith) U.kept (kept_trans (omega arith) m.kept (kept-none _ u'));
        reach = join g (m.reach [] (refl, refl)) U.reach (stops_on U.given U.values at_last);
      }

  -- the pass has come to the end, and the root alone is open
  module _ (kr : row c ≡ length t.size) (kp : c.parent.0 ≡ 0) where
    abbrev o : ℕ
    o = out c

    some : 0 < out c
    some = omega (arith, U.stands.behind)

    here : state_of u c [] ≡ state (length t.size) (out c) 0 0 (first_rows (out c) u) []
    here = as_state u c [] ∙ state_eq kr refl kp (line-root U.stands.line kp) refl

    -- the root's size is written
    abbrev last : Table
    last = sized u 0 (out c)

    abbrev final : State
    final = state (length t.size) (out c) 0 0 (sized (first_rows (out c) u) 0 (out c)) []

    fixed : step (valuing t U.values) final ≡ final
    fixed =
        closes tree-on o (sized (first_rows o u) 0 o)
        ∙ state_eq refl refl refl refl (table_eq refl (set-set (first_rows o u).size 0 o o) refl)

    comes : Reach (valuing t U.values) (state_of u c []) final
    comes = reach_eq here refl (step_to g (closes tree-on o (first_rows o u)) stop)

    same : final ≡ goal t i l
    same = reach-fixed g fixed (join g comes U.reach (stops_on U.given U.values at_last))

    first-is : first_rows (out c) last ≡ written (result t i l)
    first-is = table_eq refl (take-set-lt o u.size 0 o some) refl ∙ ap (λ (s : State). s.new) same

    later-is : later_rows (out c) last ≡ later_rows (out c) w
    later-is =
        let k = kept_trans (omega (arith, kr, valued_most)) U.kept (kept-none (out c) u) in
        table_eq refl (drop-set-lt o u.size 0 o some) refl ∙ k.later

    rows_is : out c ≡ length (sizes (relabel bare (result t i l)))
    rows_is = ap (λ (s : State). s.out) same ∙ sym (length-sizes (relabel bare (result t i l)))

    pub answered : Answered t i l w (sized u 0 (out c)) (out c)
    answered =
        record {
          rows = ap (λ (s : State). s.out) same ∙ rows_are U.given;
          columns =
              sym (first-later o last)
              ∙ ((λ x. first-is x ⧺ later-is x) ∙ ap (λ (m : ℕ). written (result t i l) ⧺ later_rows m w) rows_is);
        }
