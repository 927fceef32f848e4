-- Behind the last record the open row is closed, or one stretch copies all rows that are left under it.
-- Assumes nothing.
use Prim.Native.Nat.{ℕ, ◌+◌, ◌-◌, ◌<◌}
use native.Mathlib.Omega.{arith}
use Rattle.plan.proofs.Kit.{by_place}
use mathlib.Core.Path.{◌≡◌, refl, sym, ap, ◌∙◌}
use mathlib.Core.List.{List, []}
use lib.ListN.{length, set, length-set}
use lib.Seq.{take_all}
use Rattle.plan.specs.declared.Record.{Record}
use Rattle.plan.specs.Tree.{Forest, none, count}
use Rattle.plan.specs.Table.{Table, table}
use Rattle.plan.specs.Open.{dist_at, size_at}
use Rattle.pass_moves.proofs.Rows.{table_eq, tall_rows, tall_tree}
use Rattle.pass_moves.specs.Rows.{◌⧺◌, rows, first_rows}
use Rattle.pass_way.specs.Machine.{Away, sized, state, Reach}
use Rattle.pass_way.proofs.Machine.{state_eq, join}
use Rattle.pass_way.proofs.Line.{line-old, line-below, line-end, line-room, line_same, line_at}
use Rattle.pass_way.proofs.Pieces.{all_reach, line_all}
use Rattle.pass_way.specs.Walk.{Carried, Went, ahead, valuing, Kept}
use Rattle.pass_moves.specs.declared.Cursor.{Cursor}
use Rattle.pass_moves.specs.Written.{row, out, cursor, Ended, Closes, stretched, Stretches, Wrote}
use Rattle.pass_way.proofs.Grown.{Grown, grown_state, grown_kept, grown_room, grown_below, stretched_grown}
use Rattle.pass_way.proofs.Chain.{reach_eq, kept-none, kept_trans}
use Rattle.pass_way.proofs.Steps.{copied_to, plainly, as_state, good, Fits, fits, can_close, went_close, ahead-on}
use Rattle.pass.specs.Underway.{Underway, Copied}
use Rattle.pass.proofs.Given.{stops_on}
use Rattle.pass.proofs.Ended.{valued_most, rows-low, few-rows, at_last, tree-on, ends, ready, to_the_end, moved_on}

-- the columns with one size written
pub sized-is : (u : Table) (j n : ℕ) {l : List ℕ} → l ≡ set u.size j n → table u.dist l u.value ≡ sized u j n
sized-is u j n e = table_eq refl e refl

module _ {t i : Table} {l : List Record} {w u : Table} {c : Cursor} (U : Underway t i l w u c []) where
  pub parent-ends : Ended t.size c.parent.0
  parent-ends =
      let x = U.stands.line in
      record {
        there = omega (arith, line-below x, line-end x);
        low = omega (arith, line-room (tree-on U) x, line-end x, rows-low U);
      }

  module _ {e : ℕ} (we : e ≡ c.parent.0 + size_at t c.parent.0) where
    abbrev g : Table
    g = valuing t U.values

    abbrev f : Forest ℕ
    f = U.stands.left

    abbrev m : ℕ
    m = e - row c

    abbrev d : ℕ
    d = out c - c.under.0

    to_end : row c + count U.stands.left ≡ e
    to_end = line-room (tree-on U) U.stands.line ∙ sym we

    whole : first_rows (e - row c) (rows (out c - c.under.0) U.stands.left)
        ≡ rows (out c - c.under.0) U.stands.left
    whole =
        let h = tall_rows d f in
        let z = to_end in
        table_eq (take_all m _ (omega (arith, h.dist))) (take_all m _ (omega (arith, h.size)))
        (take_all m _ (omega (arith, h.value)))

    alls : Reach (valuing t U.values) (plainly u c [])
        (state (e) (out c + (e - row c)) c.parent.0 c.under.0
        (first_rows (out c) u ⧺ first_rows (e - row c) (rows (out c - c.under.0) U.stands.left)) [])
    alls =
        let x : Table = first_rows (out c) u in
        let h = U.stands.line in
        let z = to_end in
        reach_eq refl (state_eq (sym to_end) (omega arith) refl refl (ap (λ (y : Table). x ⧺ y) whole))
        (all_reach g (row c) c.parent.0 c.under.0 (out c) f x [] (line-below h) (line-old h) (omega (arith, we))
        (good U.stands) tt)

    room : Fits u (out c + (e - row c))
    room = fits (ends U) _ alls

    stretches_on : Stretches (valuing t U.values) (e) u c
    stretches_on =
        let h = tall_tree (tree-on U) in
        let z = to_end in
        let y = line-end U.stands.line in
        record {
          ahead = omega arith;
          there =
              record {
                dist = omega (arith, h.dist, h.size);
                size = omega arith;
                value = omega (arith, h.value, h.size);
              };
          behind = U.stands.behind;
          few = room.few;
          room = room.room;
        }

    pub can_copy : Stretches t e u c
    can_copy =
        let s = stretches_on in
        record {
          ahead = s.ahead;
          there =
              record {
                dist = s.there.dist;
                size = s.there.size;
                value = omega (arith, s.there.value, U.ahead.long);
              };
          behind = s.behind;
          few = s.few;
          room = s.room;
        }

    abbrev copy : Table
    copy = stretched u (out c) (valuing t U.values) (row c) (e - row c) (out c - c.under.0)

    grown : Grown (out c) (e - row c)
        (first_rows (e - row c) (rows (out c - c.under.0) U.stands.left)) u
        (stretched u (out c) (valuing t U.values) (row c) (e - row c) (out c - c.under.0))
    grown =
        let h = U.stands.line in
        stretched_grown u (out c) g (row c) m d c.parent.0 f room.room (line-old h) (line-below h)
        (omega (arith, to_end))

    abbrev beyond : Cursor
    beyond = copied_to c (e)

    copied' : Underway t i l w copy beyond []
    copied' =
        let x = grown in
        let y = valued_most U in
        let z = to_end in
        record {
          given = U.given;
          before = U.before;
          passes = tt;
          past-root = tt;
          values = U.values;
          ahead = ahead-on {k = beyond} stretches_on U.ahead refl refl;
          coming = λ h. (valued_most U, tt);
          stands =
              record {
                left = none;
                line =
                    line_at (sym to_end) refl refl
                    (line_all f
                    (line_same copy (λ a b. grown_below x a (omega (arith, U.stands.behind))) U.stands.line));
                behind = omega (arith, U.stands.behind);
                room = grown_room x;
              };
          kept = kept_trans (omega arith) U.kept (kept_trans (omega arith) (grown_kept x) (kept-none _ copy));
          reach =
              join g (reach_eq (as_state u c []) (grown_state x beyond refl []) alls) U.reach
              (stops_on U.given U.values (at_last U));
        }

    module _ (ne : row c ≡ e → ⊥) {u' : Table} {k : Cursor} (W : Wrote t u c e u') (ek : k ≡ copied_to c e) where
      is_copy : u' ≡ copy
      is_copy = W.wrote U.values U.ahead

      pub copied : Underway t i l w u' k []
      copied = rw (is_copy, ek) copied'

      pub copied-kept : Kept (out k) u u'
      copied-kept = rw (is_copy, ek) (grown_kept grown)

      pub copied_less : ahead t k < ahead t c
      copied_less =
          let z = to_end in
          let y = line-end U.stands.line in
          let v = by_place (row c) e (λ h. h) (λ h. absurd (ne h)) (λ h. absurd (omega arith)) in
          rw ek (omega (arith, line-below U.stands.line, few-rows U))

  -- all rows are copied, so the open row ends here
  pub end-here : row c ≡ length t.size → row c ≡ c.parent.0 + size_at t c.parent.0
  end-here e =
      let x = U.stands.line in
      omega (arith, line-room (tree-on U) x, line-end x)

  -- ---- the open row is closed
  module _ (v : Away (length t.size) 0 (row c) c.parent.0)
      (e : row c ≡ c.parent.0 + size_at t c.parent.0) where
    pub can_close_it : Closes t.dist u.dist u.size c
    can_close_it = can_close (ready U) v e

    module _ {u' : Table} {c' : Cursor} (eu : u' ≡ sized u c.under.0 (out c - c.under.0))
        (ec : c' ≡ cursor c.stand (c.parent.0 - dist_at t c.parent.0) (c.under.0 - dist_at u c.under.0)
        c.valued.0) where
      closing : Went t u c (length t.size) 0 u' c' × (ahead t c' < ahead t c)
      closing = went_close v e eu ec (to_the_end U)

      carried : Carried t U.values u c (length t.size) 0 u' c'
      carried = closing.0.went U.values U.ahead (ready U)

      pub closed : Underway t i l w u' c' []
      closed = moved_on U carried

      pub closed_less : ahead t c' < ahead t c
      closed_less = closing.1

-- the open row is closed where it ends: whatever list was at its end still is
module _ {t u u' : Table} {c c' : Cursor} (v : Away (length t.size) 0 (row c) c.parent.0)
    (e : row c ≡ c.parent.0 + size_at t c.parent.0) (eu : u' ≡ sized u c.under.0 (out c - c.under.0))
    (ec : c' ≡ cursor c.stand (c.parent.0 - dist_at t c.parent.0) (c.under.0 - dist_at u c.under.0)
    c.valued.0) where
  pub copied-closed : Copied t u c u' c'
  copied-closed =
      record {
        still = λ i l w U. closed U v e eu ec;
        dist = rw eu refl;
        size = rw eu (length-set u.size c.under.0 (out c - c.under.0));
        value = rw eu refl;
      }
