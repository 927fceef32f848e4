-- A step of the pass: what it may do, and where it leads. The machine goes where it goes, by the same step or by many
-- at once.
-- Assumes nothing.
use Prim.Native.Nat.{ℕ, ◌+◌, ◌-◌, ◌≤◌, ◌<◌}
use native.Mathlib.Omega.{arith}
use mathlib.Core.Path.{◌≡◌, refl, sym, ap, ◌∙◌, subst}
use mathlib.Core.List.{List}
use lib.ListN.{length, get_or, set, length-set}
use lib.Seq.{get_or-take, take_all, take-set-lt, drop-set-lt}
use Rattle.plan.specs.Tree.{Forest, none, count, dists}
use Rattle.plan.specs.Table.{Table}
use Rattle.plan.specs.Change.{Change}
use Rattle.plan.specs.Open.{dist_at, size_at}
use Rattle.plan.proofs.Kit.{by_side}
use Rattle.pass_moves.proofs.Rows.{table_eq, tall_first, tall_rows, room_less, tall_tree}
use Rattle.pass_moves.specs.Rows.{◌⧺◌, rows, first_rows, Room}
use Rattle.pass_way.specs.Machine.{State, state, sized, closed, step, Reach, stop, Aim, Away}
use Rattle.pass_way.proofs.Machine.{state_eq, step_to, join, reach_forward}
use Rattle.pass_way.proofs.MachineForest.{Good}
use Rattle.pass_way.proofs.MachineBetween.{step_close, not_root, far, before-place}
use Rattle.pass_way.specs.Line.{Line}
use Rattle.pass_way.proofs.Line.{Up, Child, line-old, line-below, line-end, line-room, line_same, line_at, line_up, line-child}
use Rattle.pass_way.proofs.Pieces.{all_reach, part-reach, line_all, line-part}
use Rattle.pass_moves.specs.declared.Cursor.{Cursor}
use Rattle.pass_moves.specs.Written.{row, out, on_to, cursor, Ended, copied, stretched, Stretches, Ahead, Wrote, Closes}
use Rattle.pass_moves.proofs.Copies.{copied_behind}
use Rattle.pass_way.specs.Walk.{valuing, Nearer, state_of, Stands, Ends, Ready, Moved, Readied, Carried, Went, ahead}
use Rattle.pass_way.proofs.Grown.{Grown, grown_state, grown_kept, grown_room, grown_below, grown_new, stretched_grown}
use Rattle.pass_way.proofs.Chain.{reach_eq}

-- the rows up to row e are copied
abbrev pub copied_to : Cursor → ℕ → Cursor
copied_to c e = cursor (on_to c.stand e (out c + (e - row c))) c.parent.0 c.under.0 c.valued.0

module _ (u : Table) (c : Cursor) where
  -- the state, opened up
  abbrev pub plainly : List (Change ℕ) → State
  plainly cs = state (row c) (out c) c.parent.0 c.under.0 (first_rows (out c) u) cs

  pub as_state : (cs : List (Change ℕ)) → state_of u c cs ≡ plainly cs
  unfolding state_of
  as_state cs = refl

pub good : {t u : Table} {c : Cursor} → Stands t u c → Good (out c) c.under.0 (first_rows (out c) u)
good h = (tall_first h.room, h.behind)

-- there is room for the rows that the machine comes to from here
pub record Fits (u : Table) (n : ℕ) : Type 0 where
  pub few : n ≤ 65535
  pub room : Room n u

pub fits : {t u : Table} {c : Cursor} {cs : List (Change ℕ)} → Ends t u c cs → (s : State) → Reach t (plainly u c cs) s
    → Fits u s.out
fits {t} {u} {c} {cs} h s r =
    let a = reach_forward t (join t (reach_eq (as_state u c cs) refl r) h.reach h.fixed) in
    record { few = omega (arith, h.few); room = room_less a.1 h.room }

-- ---- a step
pub record Stepped (t u : Table) (c : Cursor) (p q : ℕ) (u' : Table) (c' : Cursor) : Type 0 where
  pub moved : Moved t u c p q u' c'
  pub less : ahead t c' < ahead t c

pub stepped-is : {t u u' v : Table} {c c' k : Cursor} {p q : ℕ} → u' ≡ v → c' ≡ k → Stepped t u c p q v k
    → Moved t u c p q u' c' × (ahead t c' < ahead t c)
stepped-is e w s = rw (e, w) (s.moved, s.less)

module _ {t u : Table} {c : Cursor} {p q : ℕ} (R : Ready t u c p q) where
  now_fits : Fits u (out c)
  now_fits = fits R.ends (plainly u c R.left) stop

  parent-there : c.parent.0 < length t.size
  parent-there = let l = R.stands.line in omega (arith, line-below l, line-end l)

  pub parent-ends : Ended t.size c.parent.0
  parent-ends =
      let l = R.stands.line in
      let h = R.tree_of in
      record {
        there = parent-there;
        low = omega (arith, line-room h l, line-end l, (tall_tree h).size, h.few);
      }

  module _ (v : Away p q (row c) c.parent.0) where
    -- ---- the open row is at its end
    module _ (e : row c ≡ c.parent.0 + size_at t c.parent.0) where
      up : Up t u (row c) c.parent.0 c.under.0
      up =
          let l = R.stands.line in
          let z = R.ends in
          let r = reach_eq (sym (as_state u c R.left)) refl z.reach in
          line_up l (omega (arith, line-room R.tree_of l))
          (not_root t p q (row c) c.parent.0 R.tree_of v e (out c) c.under.0 (first_rows (out c) u)
          R.left R.aim z.target r z.none_left)

      pub can_close : Closes t.dist u.dist u.size c
      can_close =
          let h = up in
          let r = R.stands.room in
          let b = R.stands.behind in
          record {
            behind = b;
            few = omega (arith, now_fits.few);
            there = omega (arith, parent-there, (tall_tree R.tree_of).dist, (tall_tree R.tree_of).size);
            parent = h.dist;
            there-new = omega (arith, r.dist);
            parent-new = h.dist-new;
            room = omega (arith, r.size);
          }

      abbrev n : ℕ
      n = out c - c.under.0

      abbrev above : Cursor
      above =
          let q = c.parent.0 - dist_at t c.parent.0 in
          let j = c.under.0 - dist_at u c.under.0 in
          cursor c.stand q j c.valued.0

      closes : (cs : List (Change ℕ)) → closed t (plainly u c cs) ≡ state_of (sized u c.under.0 n) above cs
      closes cs =
          let b = R.stands.behind in
          let d = sym (get_or-take (out c) u.dist c.under.0 0 b) in
          sym (as_state (sized u c.under.0 n) above cs
          ∙ state_eq refl refl refl (ap (λ (x : ℕ). c.under.0 - x) d)
          (table_eq refl (take-set-lt (out c) u.size c.under.0 n b) refl))

      to_closed : (cs : List (Change ℕ)) → Aim t p q cs
          → step t (plainly u c cs) ≡ closed t (plainly u c cs)
      to_closed cs a = step_close t p q (row c) c.parent.0 v (out c) c.under.0 (first_rows (out c) u) cs a e

      pub stepped_close : Stepped t u c p q (sized u c.under.0 n) above
      stepped_close =
          let r = R.stands.room in
          let m : length (set u.size c.under.0 n) ≡ length u.size = length-set u.size c.under.0 n in
          record {
            moved =
                record {
                  reach = λ cs a. reach_eq (as_state u c cs) refl (step_to t (to_closed cs a ∙ closes cs) stop);
                  stands =
                      record {
                        left = up.rest;
                        line = line_same (sized u c.under.0 n) (λ x y. refl) up.line;
                        behind = omega (arith, up.lower_new, R.stands.behind);
                        room = record { dist = r.dist; size = omega (arith, r.size); value = r.value };
                      };
                  kept =
                      record {
                        later = table_eq refl (drop-set-lt (out c) u.size c.under.0 n R.stands.behind) refl;
                        dist = refl;
                        size = m;
                        value = refl;
                      };
                  grows = omega arith;
                };
            less = omega (arith, up.lower);
          }

    -- ---- there is a row to go on with
    module _ (ne : row c ≡ c.parent.0 + size_at t c.parent.0 → ⊥) where
      child : Child t u (row c) c.parent.0 c.under.0
      child = line-child R.tree_of R.stands.line ne

      in_table : row c + size_at t (row c) ≤ length t.size
      in_table = omega (arith, line-end child.line, child.size)

      pub row-there : (row c < length t.size) × (length t.value ≡ length t.size) × (length t.size ≤ 65535)
      row-there =
          let h = tall_tree R.tree_of in
          (omega (arith, in_table, child.size), h.value ∙ sym h.size, omega (arith, h.size, R.tree_of.few))

      abbrev f : Forest ℕ
      f = R.stands.left

      to_end : row c + count R.stands.left ≡ c.parent.0 + size_at t c.parent.0
      to_end = line-room R.tree_of R.stands.line

      -- the place of the next change is not here yet
      place-ahead : row c < p
      place-ahead =
          let z = R.ends in
          before-place t p q (row c) c.parent.0 (out c) c.under.0 (first_rows (out c) u) R.left R.aim v ne
          (line-below R.stands.line) child.dist row-there.0 z.target
          (reach_eq (sym (as_state u c R.left)) refl z.reach) z.none_left

      -- ---- the rows up to row e, which all lie under the open row, are copied
      abbrev new : ℕ → Table
      new e = first_rows (e - row c) (rows (out c - c.under.0) R.stands.left)

      abbrev copy : ℕ → Table
      copy e = stretched u (out c) t (row c) (e - row c) (out c - c.under.0)

      module _ (e : ℕ) (some : row c < e) (inside : e ≤ c.parent.0 + size_at t c.parent.0) where
        e_there : e ≤ length t.size
        e_there = omega (arith, to_end, line-end R.stands.line)

        can_stretch : Fits u (out c + (e - row c)) → Stretches t e u c
        can_stretch b =
            let h = tall_tree R.tree_of in
            let w = e_there in
            record {
              ahead = omega arith;
              there =
                  record { dist = omega (arith, h.dist, h.size); size = w; value = omega (arith, h.value, h.size) };
              behind = R.stands.behind;
              few = b.few;
              room = b.room;
            }

        grown : Fits u (out c + (e - row c)) → Grown (out c) (e - row c) (new e) u (copy e)
        grown b =
            let l = R.stands.line in
            stretched_grown u (out c) t (row c) (e - row c) (out c - c.under.0) c.parent.0 f b.room
            (line-old l) (line-below l) (omega (arith, to_end))

        -- the line above stays
        same_line : (b : Fits u (out c + (e - row c))) → Line t (copy e) (row c) c.parent.0 c.under.0 f
        same_line b =
            let g = grown b in
            line_same (copy e) (λ z w. grown_below g z (omega (arith, R.stands.behind))) R.stands.line

      -- ---- all rows that are left under it, when they end before the place of the next change
      module _ {e : ℕ} (w : e ≡ c.parent.0 + size_at t c.parent.0) (l : e < p) where
        till : row c + count R.stands.left ≡ e
        till = to_end ∙ sym w

        some_left : row c < e
        some_left = omega (arith, w, child.size, line-room R.tree_of child.line)

        inside : e ≤ c.parent.0 + size_at t c.parent.0
        inside = omega (arith, w)

        abbrev m : ℕ
        m = e - row c

        abbrev beyond : Cursor
        beyond = cursor (on_to c.stand e (out c + m)) c.parent.0 c.under.0 c.valued.0

        whole : new e ≡ rows (out c - c.under.0) f
        whole =
            let h = tall_rows (out c - c.under.0) f in
            table_eq (take_all m _ (omega (arith, h.dist, till))) (take_all m _ (omega (arith, h.size, till)))
            (take_all m _ (omega (arith, h.value, till)))

        alls : (cs : List (Change ℕ)) → Aim t p q cs → Reach t (plainly u c cs)
            (state e (out c + m) c.parent.0 c.under.0 (first_rows (out c) u ⧺ new e) cs)
        alls cs a =
            let x : Table = first_rows (out c) u in
            let h = R.stands.line in
            reach_eq refl
            (state_eq (sym till) (omega (arith, till)) refl refl (ap (λ (y : Table). x ⧺ y) whole))
            (all_reach t (row c) c.parent.0 c.under.0 (out c) f x cs (line-below h) (line-old h)
            (omega (arith, to_end)) (good R.stands) (far t p q (row c + count f) cs a (omega (arith, till))))

        all_fits : Fits u (out c + (e - row c))
        all_fits = fits R.ends _ (alls R.left R.aim)

        can_all : Stretches t e u c
        can_all = can_stretch e some_left inside all_fits

        stepped_all : Stepped t u c p q (copy e) beyond
        stepped_all =
            let g = grown e some_left inside all_fits in
            record {
              moved =
                  record {
                    reach = λ cs a. reach_eq (as_state u c cs) (grown_state g beyond refl cs) (alls cs a);
                    stands =
                        record {
                          left = none;
                          line = line_at (sym till) refl refl (line_all f (same_line e some_left inside all_fits));
                          behind = omega (arith, R.stands.behind);
                          room = grown_room g;
                        };
                    kept = grown_kept g;
                    grows = omega arith;
                  };
              less =
                  let z = e_there e some_left inside in
                  omega (arith, some_left, z, row-there.2, line-below R.stands.line);
            }

      -- ---- the rows up to the place of the next change, of which the last is then open
      module _ (l : p ≤ c.parent.0 + size_at t c.parent.0) where
        abbrev k : ℕ
        k = p - row c

        abbrev last : Cursor
        last = cursor (on_to c.stand p (out c + k)) (p - 1) (out c + k - 1) c.valued.0

        parts : (cs : List (Change ℕ)) → Aim t p q cs → Reach t (plainly u c cs)
            (state p (out c + k) (p - 1) (out c + k - 1) (first_rows (out c) u ⧺ new p) cs)
        parts cs a =
            let h = R.stands.line in
            let z = place-ahead in
            reach_eq refl (state_eq (omega arith) refl (omega arith) refl refl)
            (part-reach t (row c) c.parent.0 f (line-below h) (line-old h) (omega (arith, to_end)) k c.under.0
            (out c) (first_rows (out c) u) cs (omega arith) (omega (arith, to_end)) (good R.stands)
            (far t p q (row c + k - 1) cs a (omega arith)))

        part_fits : Fits u (out c + (p - row c))
        part_fits = fits R.ends _ (parts R.left R.aim)

        can_part : Stretches t p u c
        can_part = can_stretch p place-ahead l part_fits

        open_line : (b : Forest ℕ) × Line t (copy p) p (p - 1) (out c + k - 1) b
        open_line =
            let z = place-ahead in
            let g = grown p place-ahead l part_fits in
            let w =
            line-part f k (out c) (same_line p place-ahead l part_fits) (omega arith) (omega (arith, to_end))
            R.stands.behind
            (λ x y e w. grown_new g x y e w ∙ get_or-take k (dists (out c - c.under.0) f) x 0 w) in
            (w.0, line_at (omega arith) (omega arith) refl w.1)

        stepped-part : Stepped t u c p q (copy p) last
        stepped-part =
            let g = grown p place-ahead l part_fits in
            let z = place-ahead in
            record {
              moved =
                  record {
                    reach = λ cs a. reach_eq (as_state u c cs) (grown_state g last refl cs) (parts cs a);
                    stands =
                        record {
                          left = open_line.0;
                          line = open_line.1;
                          behind = omega arith;
                          room = grown_room g;
                        };
                    kept = grown_kept g;
                    grows = omega arith;
                  };
              less =
                  let w = e_there p place-ahead l in
                  omega (arith, w, row-there.2);
            }

      -- ---- as the code names them: the rows up to the nearer of the open row's end e and the place
      module _ {e s : ℕ} (w : e ≡ c.parent.0 + size_at t c.parent.0) (n : Nearer e p s) where
        pub can_copy : Stretches t s u c
        can_copy =
            by_side e p (λ l. subst (λ (x : ℕ). Stretches t x u c) (sym (n.first l)) (can_all w l))
            (λ l. subst (λ (x : ℕ). Stretches t x u c) (sym (n.second l)) (can_part (omega arith)))

        module _ {u' : Table} {k : Cursor} (eu : u' ≡ copy s)
            (ek : k ≡ copied_to c s) where
          pub copied_all : e < p → Moved t u c p q u' k × (ahead t k < ahead t c)
          copied_all l = let m = stepped_all w l in rw (eu, ek, n.first l) (m.moved, m.less)

          pub some-rows : p ≤ e → (0 < p) × (0 < out k)
          some-rows l = (omega (arith, place-ahead), rw ek (omega (arith, R.stands.behind)))

          pub copied-part : p ≤ e → {k' : Cursor} → k' ≡ cursor k.stand (p - 1) (out k - 1) k.valued.0
              → Moved t u c p q u' k' × (ahead t k' < ahead t c)
          copied-part l ec = let m = stepped-part (omega arith) in rw (eu, ec, ek, n.second l) (m.moved, m.less)

-- ---- with values ahead
ahead-same : {l value new new' : List ℕ} {c c' : Cursor} {q j : ℕ} → Ahead l value new c → new' ≡ new
    → c' ≡ cursor c.stand q j c.valued.0 → Ahead l value new' c'
ahead-same A e w = rw (e, w) (record { long = A.long; later = A.later; there = A.there })

pub ahead-on : {t u u' : Table} {l : List ℕ} {c k : Cursor} {e q j : ℕ} → Stretches (valuing t l) e u c
    → Ahead l t.value u.value c
    → u' ≡ stretched u (out c) (valuing t l) (row c) (e - row c) (out c - c.under.0)
    → k ≡ cursor (on_to c.stand e (out c + (e - row c))) q j c.valued.0 → Ahead l t.value u'.value k
ahead-on {t} {u} {u'} {l} {c} {k} {e} S A eu ek =
    let v : u'.value ≡ copied u.value (out c) l (row c) (e - row c) = ap (λ (x : Table). x.value) eu in
    let n : ℕ = e - row c in
    let s = S.ahead in
    let z = S.there.value in
    rw (v, ek)
    (record {
      long = A.long;
      later = A.later;
      there =
          λ i b m.
          copied_behind u.value (out c) l (row c) n S.room.value (omega arith) (out c + n + (i - e)) (i - e)
          refl
          ∙ (ap (λ (x : ℕ). get_or u.value x 0) (omega arith) ∙ A.there i (omega arith) m);
    })

elsewhere : {a b e : ℕ} → e ≡ b → (a ≡ e → ⊥) → a ≡ b → ⊥
elsewhere w ne z = ne (z ∙ sym w)

module _ {t u : Table} {c : Cursor} {p q : ℕ} (v : Away p q (row c) c.parent.0) where
  module _ {u' : Table} {c' : Cursor} (e : row c ≡ c.parent.0 + size_at t c.parent.0)
      (eu : u' ≡ sized u c.under.0 (out c - c.under.0))
      (ec : c' ≡ cursor c.stand (c.parent.0 - dist_at t c.parent.0) (c.under.0 - dist_at u c.under.0)
      c.valued.0) where
    close_carried : (l : List ℕ) → Ahead l t.value u.value c → Ready (valuing t l) u c p q
        → Carried t l u c p q u' c' × (ahead t c' < ahead t c)
    close_carried l A R =
        let m = stepped-is eu ec (stepped_close R v e) in
        let o = ap (λ (x : Cursor). out x) ec in
        let r = ap (λ (x : Cursor). row x) ec in (
          record {
            moved = m.0;
            ahead = ahead-same A (ap (λ (x : Table). x.value) eu) ec;
            level = omega arith;
            onward = omega arith;
            same = ap (λ (x : Cursor). x.valued.0) ec;
          },
          m.1,
        )

    pub went_close : Readied t u c p q → Went t u c p q u' c' × (ahead t c' < ahead t c)
    went_close W =
        (record { went = λ l A R. (close_carried l A R).0 }, (close_carried W.values W.ahead W.ready).1)

  module _ {e s : ℕ} (w : e ≡ c.parent.0 + size_at t c.parent.0) (ne : row c ≡ e → ⊥) (n : Nearer e p s) where
    pub can_stretch_on : Readied t u c p q → Stretches t s u c
    can_stretch_on W =
        let S = can_copy W.ready v (elsewhere w ne) w n in
        record {
          ahead = S.ahead;
          there =
              record {
                dist = S.there.dist;
                size = S.there.size;
                value = omega (arith, S.there.value, W.ahead.long);
              };
          behind = S.behind;
          few = S.few;
          room = S.room;
        }

    module _ {u' : Table} {k : Cursor} (wr : Wrote t u c s u')
        (ek : k ≡ copied_to c s) where
      abbrev to : ℕ → Cursor → Type 0
      to y x = (row x ≡ y) × (out x ≡ out c + (y - row c))

      all_carried : e < p → (l : List ℕ) → Ahead l t.value u.value c → Ready (valuing t l) u c p q
          → Carried t l u c p q u' k × (ahead t k < ahead t c)
      all_carried h l A R =
          let S = can_copy R v (elsewhere w ne) w n in
          let m = copied_all R v (elsewhere w ne) w n (wr.wrote l A) ek h in
          let o = ap (λ (x : Cursor). out x) ek in
          let r = ap (λ (x : Cursor). row x) ek in (
            record {
              moved = m.0;
              ahead = ahead-on S A (wr.wrote l A) ek;
              level = omega (arith, S.ahead);
              onward = omega (arith, S.ahead);
              same = ap (λ (x : Cursor). x.valued.0) ek;
            },
            m.1,
          )

      pub went_all : e < p → Readied t u c p q → Went t u c p q u' k × (ahead t k < ahead t c)
      went_all h W =
          (record { went = λ l A R. (all_carried h l A R).0 }, (all_carried h W.values W.ahead W.ready).1)

      pub some-rows-on : p ≤ e → Readied t u c p q → (0 < p) × (0 < out k)
      some-rows-on h W = some-rows W.ready v (elsewhere w ne) w n (wr.wrote W.values W.ahead) ek h

      part_carried : p ≤ e → {k' : Cursor} → k' ≡ cursor k.stand (p - 1) (out k - 1) k.valued.0
          → (l : List ℕ) → Ahead l t.value u.value c → Ready (valuing t l) u c p q
          → Carried t l u c p q u' k' × (ahead t k' < ahead t c)
      part_carried h {k'} ec l A R =
          let S = can_copy R v (elsewhere w ne) w n in
          let m = copied-part R v (elsewhere w ne) w n (wr.wrote l A) ek h ec in
          let z : s ≡ p = n.second h in
          let o = ap (λ (x : Cursor). out x) ek in
          let o' = ap (λ (x : Cursor). out x) ec in
          let r' = ap (λ (x : Cursor). row x) ec in
          let r = ap (λ (x : Cursor). row x) ek in
          let y : k' ≡ cursor (on_to c.stand s (out c + (s - row c))) (p - 1) (out k - 1) c.valued.0 =
          ec ∙ (λ i. cursor (ek i).stand (p - 1) (out k - 1) (ek i).valued.0) in (
            record {
              moved = m.0;
              ahead = ahead-on S A (wr.wrote l A) y;
              level = omega (arith, S.ahead);
              onward = omega (arith, S.ahead);
              same = ap (λ (x : Cursor). x.valued.0) y;
            },
            m.1,
          )

      pub went-part : p ≤ e → {k' : Cursor} → k' ≡ cursor k.stand (p - 1) (out k - 1) k.valued.0
          → Readied t u c p q → Went t u c p q u' k' × (ahead t k' < ahead t c)
      went-part h ec W = (
        record { went = λ l A R. (part_carried h ec l A R).0 },
        (part_carried h ec W.values W.ahead W.ready).1,
      )
