-- One record: it gives the root another value, or it is vain, or it renames a row ahead, or the pass goes on to its
-- place and takes it. In each case the pass is underway with the records behind it.
-- Assumes nothing.
use Prim.Native.Nat.{ℕ, ◌+◌, ◌-◌, ◌≤◌, ◌<◌}
use native.Mathlib.Omega.{arith}
use mathlib.Core.Path.{◌≡◌, refl, sym, ap, ◌∙◌, subst}
use mathlib.Core.Bool.{Bool, true, false, cond}
use mathlib.Core.List.{List, [], ◌∷◌}
use lib.Dec.{T}
use lib.ListN.{length, get_or, set, length-set}
use lib.Seq.{drop-set-lt, get_or-set_same, get_or-set_other}
use borrow.Author.Tests.{eq-eqb, ne_eqb, eqb-false}
use Rattle.plan.specs.declared.OldPre.{OldPre}
use Rattle.plan.specs.declared.Stand.{Stand}
use Rattle.plan.specs.declared.Record.{Record}
use Rattle.std.specs.Prelude.{Some}
use Rattle.plan.specs.Table.{Table, table}
use Rattle.plan.specs.Change.{Change, act, rename, lost, skip}
use Rattle.plan.specs.Paint.{old, plan}
use Rattle.plan.specs.Records.{is_rename, known, All}
use Rattle.plan.specs.Way.{old_pre, has_run, removes_rows, vain, brought, taken_from, goes_on_at, stand}
use Rattle.plan.specs.Open.{dist_at}
use Rattle.plan.proofs.Kit.{by_place, by_side, cond_elim}
use Rattle.pass_moves.proofs.Rows.{table_eq, tall_tree}
use Rattle.pass_moves.specs.Rows.{first_rows}
use Rattle.pass_way.specs.Machine.{State, state, value_at, Reach, stop, Aim}
use Rattle.pass_way.proofs.Machine.{join}
use Rattle.pass_way.specs.Walk.{valuing, state_of, Stands, Ends, Kept, Ready, Readied, Carried, Went}
use Rattle.pass_way.proofs.Revalued.{tree-valued, line-valued}
use Rattle.pass.proofs.ValuesAhead.{reach_agree, rename-ahead}
use Rattle.pass_way.proofs.MachineBetween.{not-past}
use Rattle.pass_way.proofs.Line.{line_same, line-end, dist_most}
use Rattle.pass.specs.Values.{valued, values}
use Rattle.pass.proofs.Values.{valued-delete, valued-insert, valued-rename, valued-replace}
use Rattle.plan.proofs.FourKinds.{by_kind, run-within}
use Rattle.pass.proofs.RecordFacts.{row_named, place_named, run_of, behind-rename, place-valued, far-values}
use Rattle.pass_moves.specs.declared.Cursor.{Cursor}
use Rattle.pass_moves.specs.Written.{row, out, cursor, Ahead, Revalues, Revalued}
use Rattle.judge_record.specs.Way.{EndsLow, Meets}
use Rattle.pass.specs.Taking.{Under, Brings, with_run}
use Rattle.pass.specs.Underway.{renamed, still_to_come, onward, behind_first, goal, Underway}
use Rattle.pass_way.proofs.Chain.{reach_eq, room-kept, kept_trans}
use Rattle.pass_way.proofs.Steps.{plainly, as_state, fits}
use Rattle.pass.proofs.Vain.{lost-valued, skip-lost, skip-kept, skip-none, behind_it}
use Rattle.pass.proofs.Given.{count-plan, row_ends, tree_of, stops, stops_on, result-room, given-ends, given-ends-on}
use Rattle.pass.proofs.Takes.{Due, no_insert, next, at, can_bring, done}

-- ---- behind the first record none is for the root
onward-later : (i u : Table) (c : Cursor) (rs : List Record) → All (λ r. 0 < r.location) rs
    → onward i u c rs ≡ state_of u c (still_to_come c (values i rs))
unfolding skip
onward-later i u c [] h = refl
onward-later i u c (r ∷ rs) h = rw (ne_eqb r.location 0 (λ z. omega (arith, h.0)))

later_first : (rs : List Record) → All (λ r. 0 < r.location) rs → All (λ r. 0 < r.location) (behind_first rs)
later_first [] h = tt
later_first (r ∷ rs) h = h.1

-- ---- the place of a record
aim_of : (t i : Table) (r : Record) (p q : ℕ) (cs : List (Change ℕ)) → T (known r) → p ≡ r.location
    → Under t.dist r q → Aim t p q (valued i r ∷ cs)
aim_of t i r p q cs k e h =
    by_kind r k (λ n. rw (valued-delete i r n) (sym e, far (λ z. omega arith)))
    (λ n. rw (valued-insert i r n) (sym e, h.insert n))
    (λ n. rw (valued-rename i r n) (sym e, far (λ z. omega arith)))
    (λ n. rw (valued-replace i r n) (sym e, far (λ z. omega arith)))
  where
    far : (r.kind ≡ 2 → ⊥) → p ≡ q + dist_at t p
    far n = subst (λ (x : ℕ). x ≡ q + dist_at t x) (sym e) (h.other n)

-- ---- no values are ahead
ahead_none : (l new : List ℕ) (c : Cursor) → c.valued.0 ≤ row c → Ahead l l new c
ahead_none l new c h = record { long = refl; later = λ k z. refl; there = λ k y z. absurd (omega arith) }

pub kept_at : {m n : ℕ} {u v : Table} → m ≡ n → Kept n u v → Kept m u v
kept_at e k = rw e k

module _ {t i w u : Table} {l rs : List Record} {c : Cursor} {r : Record} (U : Underway t i l w u c (r ∷ rs)) where
  -- the table with the values that are ahead
  abbrev g : Table
  g = valuing t U.values

  -- the records behind it, without those that are vain
  abbrev left : List (Change ℕ)
  left = still_to_come c (values i rs)

  -- where the machine goes on, when the record is for the root or not
  abbrev from-here : Bool → State
  from-here b =
      cond b (state_of (renamed u r.value) c left) (state_of u c (still_to_come c (valued i r ∷ values i rs)))

  row_most : row c ≤ length t.size
  row_most = omega (arith, line-end U.stands.line)

  valued_most : c.valued.0 ≤ length t.size
  valued_most = by_side (row c) c.valued.0 (λ h. (U.coming h).0) (λ h. omega (arith, row_most))

  at_last : get_or U.values (length t.size) 0 ≡ value_at t (length t.size)
  at_last = U.ahead.later (length t.size) valued_most

  -- the pass is underway behind the record
  behind_it_lem : {u' : Table} {c' : Cursor} (v : List ℕ) → Ahead v t.value u'.value c'
      → (row c' < c'.valued.0 → (c'.valued.0 ≤ length t.size) × All (λ x. c'.valued.0 ≤ x.location) rs)
      → Stands (valuing t v) u' c' → Kept (out c' + (c'.valued.0 - row c')) w u'
      → Reach (valuing t v) (state_of u' c' (still_to_come c' (values i rs))) (goal t i l)
      → Underway t i l w u' c' rs
  behind_it_lem {u'} {c'} v A a s k h =
      record {
        given = U.given;
        before = Some r;
        passes = U.passes.1;
        past-root = later_first rs U.past-root;
        values = v;
        ahead = A;
        coming = a;
        stands = s;
        kept = k;
        reach = reach_eq (onward-later i u' c' rs U.past-root) refl h;
      }

  -- ---- the root
  pub taken-root : r.location ≡ 0 → Underway t i l w (renamed u r.value) c rs
  taken-root e =
      let v : ℕ = r.value in
      let n : ℕ = out c + (c.valued.0 - row c) in
      let o : 0 < out c = omega (arith, U.stands.behind) in
      let m : length (renamed u v).value ≡ length u.value = length-set u.value 0 v in
      let d = drop-set-lt n u.value 0 v (omega arith) in
      let k : Kept n u (renamed u v) =
      record { later = table_eq refl refl d; dist = refl; size = refl; value = m } in
      let room = U.stands.room in
      behind_it_lem U.values
      (record {
        long = U.ahead.long;
        later = U.ahead.later;
        there =
            λ j a b.
            get_or-set_other u.value 0 (out c + (j - row c)) v 0 (λ z. omega arith) ∙ U.ahead.there j a b;
      })
      (λ h. let z = U.coming h in (z.0, z.1.1))
      (record {
        left = U.stands.left;
        line = line_same (renamed u v) (λ x y. refl) U.stands.line;
        behind = U.stands.behind;
        room = record { dist = room.dist; size = room.size; value = omega (arith, room.value) };
      }) (kept_trans (omega arith) U.kept k)
      (subst (λ (b : Bool). Reach (valuing t U.values) (from-here b) (goal t i l)) (eq-eqb r.location 0 e)
      U.reach)

  -- ---- any other row
  module _ (n : r.location ≡ 0 → ⊥) where
    reach-other : Reach (valuing t U.values) (state_of u c (still_to_come c (valued i r ∷ values i rs)))
        (goal t i l)
    reach-other =
        subst (λ (b : Bool). Reach (valuing t U.values) (from-here b) (goal t i l)) (ne_eqb r.location 0 n)
        U.reach

    lost-here : lost c.stand.first.0 c.stand.end.0 (valued i r)
        ≡ vain c.stand.first.0 c.stand.end.0 r
    lost-here = lost-valued c.stand.first.0 c.stand.end.0 i r

    pub taken-vain : vain c.stand.first.0 c.stand.end.0 r ≡ true → Underway t i l w u c rs
    taken-vain e =
        let s = skip-lost c.stand.first.0 c.stand.end.0 (valued i r) (values i rs) (lost-here ∙ e) in
        behind_it_lem U.values U.ahead (λ h. let z = U.coming h in (z.0, z.1.1)) U.stands U.kept
        (reach_eq (ap (state_of u c) (sym s)) refl reach-other)

    in_table : (r.kind ≡ 2 → ⊥) → r.location < length t.size
    in_table k =
        let z = (row_named (plan old t) r U.passes.0.in_place k).0 in
        omega (arith, count-plan (tree_of U.given))

    pub parent-there : (r.kind ≡ 2 → ⊥) → (r.location < length t.dist) × (dist_at t r.location ≤ r.location)
    parent-there k =
        let h = tree_of U.given in
        let y = in_table k in
        let x : 0 < r.location =
        by_place 0 r.location (λ a. a) (λ a. absurd (n (sym a))) (λ a. absurd (omega arith)) in
        (omega (arith, (tall_tree h).dist, (tall_tree h).size), dist_most r.location h x y)

    pub ends_low : EndsLow t.size r
    ends_low =
        let h = tree_of U.given in
        record {
          at_row = λ z. in_table (no_insert r z);
          low =
              λ z.
              omega (arith, row_ends h r.location (in_table (no_insert r z)), (tall_tree h).size, h.few);
        }

    pub run-there : T (has_run r) → r.from < length i.size
    run-there h = (run-within i r U.passes.0.run_sound h).0

    few-brought : brought i.size r ≤ 65535
    few-brought =
        cond_elim (λ (x : ℕ). x ≤ 65535) (has_run r) _ _
        (λ h. (run_of i r U.passes.0.run_sound (subst T (sym h) tt)).few) (λ h. omega arith)

    module _ (e : vain c.stand.first.0 c.stand.end.0 r ≡ false) where
      reach-kept : Reach (valuing t U.values) (state_of u c (valued i r ∷ values i rs)) (goal t i l)
      reach-kept =
          let s = skip-kept c.stand.first.0 c.stand.end.0 (valued i r) (values i rs) (lost-here ∙ e) in
          reach_eq (ap (state_of u c) (sym s)) refl reach-other

      ends-kept : Ends (valuing t U.values) u c (valued i r ∷ values i rs)
      ends-kept = given-ends-on U.given U.values at_last U.kept reach-kept

      not_behind : row c ≤ r.location
      not_behind =
          by_side r.location (row c)
          (λ h.
          absurd (not-past g (valued i r) (values i rs) refl refl
          (reach_eq (sym (as_state u c (valued i r ∷ values i rs))) refl reach-kept)
          (omega (arith, place-valued (plan old t) i r U.passes.0.kind-known)))) (λ h. h)

    pub meets : {m : ℕ} → m ≡ brought i.size r → Meets c.stand r m
    meets w =
        record {
          ahead = λ e y. not_behind e;
          few =
              λ e y.
              let h = tree_of U.given in
              let o = (fits (ends-kept e) (plainly u c (valued i r ∷ values i rs)) stop).few in
              let z = place_named (plan old t) r U.passes.0.in_place in
              omega (arith, few-brought, count-plan h, (tall_tree h).size, h.few);
        }

    module _ (e : vain c.stand.first.0 c.stand.end.0 r ≡ false) where
      -- ---- a rename: its value is written ahead
      module _ (k : r.kind ≡ 3) where
        abbrev p : ℕ
        p = r.location

        from-rename : Reach (valuing t U.values) (plainly u c (act p (rename (λ x. r.value)) ∷ values i rs))
            (goal t i l)
        from-rename =
            let s : List (Change ℕ) = act p (rename (λ x. r.value)) ∷ values i rs in
            reach_eq (sym (ap (λ (y : Change ℕ). state_of u c (y ∷ values i rs)) (valued-rename i r k) ∙ as_state u c s))
            refl (reach-kept e)

        valued-before : c.valued.0 ≤ p
        valued-before =
            by_side (row c) c.valued.0 (λ h. omega (arith, (U.coming h).1.0)) (λ h. omega (arith, (not_behind e)))

        there : (p < length t.value) × (p < length t.size) × (p < 65536)
        there =
            let h = tree_of U.given in
            let z = in_table (λ y. omega arith) in
            let d = tall_tree h in
            (omega (arith, d.value, d.size), omega arith, omega (arith, d.size, h.few))

        coming-on : All (λ x. p + 1 ≤ x.location) rs
        coming-on = behind-rename (plan old t) i r rs k U.passes.1

        goes_on : Reach (valuing t (set U.values p r.value)) (plainly u c (values i rs)) (goal t i l)
            × (out c + (p - row c) < (goal t i l).out)
        goes_on =
            let z = U.ahead.long in
            rename-ahead g (set U.values p r.value) p r.value (values i rs)
            (far-values (plan old t) i (Some r) p rs U.passes.1 coming-on)
            (get_or-set_same U.values p r.value 0 (omega (arith, there.0)))
            (λ j m. get_or-set_other U.values p j r.value 0 m) from-rename refl refl (not_behind e)

        pub can_revalue : Revalues t.value u.value c r.location
        can_revalue =
            let room = room-kept U.kept (result-room U.given) in
            record {
              ahead = not_behind e;
              there = there.0;
              few = omega (arith, there.2);
              room = omega (arith, goes_on.1, room.value);
            }

        pub taken-rename : {v : List ℕ} {s : Stand} → Revalued t.value u.value c r.location r.value v
            → s ≡ stand (row c) (out c) 0 0
            → Underway t i l w (table u.dist u.size v)
            (cursor s c.parent.0 c.under.0 (r.location + 1)) rs
        taken-rename {v} N es =
            let d : Cursor = cursor (stand (row c) (out c) 0 0) c.parent.0 c.under.0 (p + 1) in
            let u' : Table = table u.dist u.size v in
            let s = U.stands in
            let m : length (set U.values p r.value) ≡ length U.values = length-set U.values p r.value in
            let f : first_rows (out c) u' ≡ first_rows (out c) u = table_eq refl refl N.first in
            let b : Kept (out c + (p + 1 - row c)) u u' =
            record { later = table_eq refl refl N.later; dist = refl; size = refl; value = N.long } in
            let z : state_of u' d (skip 0 0 (values i rs)) ≡ plainly u c (values i rs) =
            ap (state_of u' d) (skip-none (values i rs))
            ∙ (as_state u' d (values i rs)
            ∙ ap (λ (y : Table). state (row c) (out c) c.parent.0 c.under.0 y (values i rs)) f) in
            let a = N.ahead U.values U.ahead valued-before in
            rw es
            (behind_it_lem {c' = d} (set U.values p r.value)
            (record { long = a.long; later = a.later; there = a.there })
            (λ h. (omega (arith, there.1), coming-on))
            (record {
              left = _;
              line = line_same u' (λ x y. refl) (line-valued (set U.values p r.value) m s.line);
              behind = s.behind;
              room =
                  record {
                    dist = s.room.dist;
                    size = s.room.size;
                    value = omega (arith, s.room.value, N.long);
                  };
            }) (kept_trans (omega (arith, valued-before)) U.kept b) (reach_eq z refl goes_on.0))

      -- ---- any other record: the pass goes on to its place
      module _ {p q : ℕ} (wp : p ≡ r.location) (wq : Under t.dist r q) where
        aim : (cs : List (Change ℕ)) → Aim (valuing t U.values) p q (valued i r ∷ cs)
        aim cs = aim_of (valuing t U.values) i r p q cs U.passes.0.kind-known wp wq

        ready : Ready (valuing t U.values) u c p q
        ready =
            record {
              tree_of = tree-valued U.values U.ahead.long (tree_of U.given);
              stands = U.stands;
              left = valued i r ∷ values i rs;
              aim = aim (values i rs);
              ends = ends-kept e;
            }

        pub on_the_way : Readied t u c p q
        on_the_way = record { values = U.values; ahead = U.ahead; ready = ready }

        module _ {u' : Table} {k : Cursor} (M : Went t u c p q u' k) (kr : row k ≡ p) (kp : k.parent.0 ≡ q) where
          carried : Carried t U.values u c p q u' k
          carried = M.went U.values U.ahead ready

          valued-passed : c.valued.0 ≤ p
          valued-passed =
              by_side (row c) c.valued.0 (λ h. omega (arith, (U.coming h).1.0))
              (λ h. omega (arith, carried.onward))

          -- none is ahead there, so the table is as it was
          agrees : (j : ℕ) → row k ≤ j → value_at t j ≡ get_or U.values j 0
          agrees j m = sym (U.ahead.later j (omega (arith, valued-passed)))

          stands-there : Stands t u' k
          stands-there =
              let s = carried.moved.stands in
              record {
                left = _;
                line = line-valued {t = valuing t U.values} t.value (sym U.ahead.long) s.line;
                behind = s.behind;
                room = s.room;
              }

          reach-there : Reach t (state_of u' k (valued i r ∷ values i rs)) (goal t i l)
          unfolding state_of
          reach-there =
              reach_agree g t.value
              (join g (carried.moved.reach (valued i r ∷ values i rs) (aim (values i rs))) (reach-kept e)
              (stops_on U.given U.values at_last)) agrees

          kept_there : Kept (out k) w u'
          kept_there =
              kept_trans (omega (arith, carried.level, carried.onward, valued-passed)) U.kept
              carried.moved.kept

          module _ (never : is_rename r ≡ false) where
            due : Due t i u' k r
            due =
                let h = U.passes.0 in
                let a = tall_tree (tree_of U.given) in
                record {
                  tree_of = tree_of U.given;
                  stands = stands-there;
                  kind-known = h.kind-known;
                  no_rename = eqb-false r.kind 3 never;
                  run_sound = h.run_sound;
                  there = λ z. omega (arith, (parent-there z).0, a.dist, a.size);
                  here = kr ∙ wp;
                  under = subst (Under t.dist r) (sym kp) wq;
                  none_ahead = omega (arith, carried.same, valued-passed);
                  left = values i rs;
                  ends = given-ends U.given kept_there reach-there;
                }

            -- as the calls name the number of rows that come
            module _ {x m : ℕ} (wx : x ≡ brought i.size r) (wm : m ≡ x) where
              pub can_bring_it : Brings i u' k r m
              can_bring_it = subst (Brings i u' k r) (sym (wm ∙ wx)) (can_bring due)

              -- and where the rows go on
              module _ {s : Stand} {b : OldPre} (wb : b ≡ old_pre (goes_on_at t.size r))
                  (ws : s ≡ behind_it c.stand r b.0 x) where
                is-next : s ≡ next due
                is-next =
                    let e : ℕ = goes_on_at t.size r in
                    let o : out c + (r.location - row c) ≡ out k =
                    omega (arith, carried.level, carried.onward, kr, wp) in
                    ws
                    ∙ (λ y.
                    stand (wb y).0 (o y + wx y) (taken_from r) (cond (removes_rows r) (wb y).0 0))

                pub taken_made : {u'' : Table} → u'' ≡ with_run i u' k r m
                    → Underway t i l w u'' (cursor s k.parent.0 k.under.0 k.valued.0) rs
                taken_made eu =
                    let d = done due in
                    let z = d.none_ahead in
                    let c'' : Cursor = at due (next due) in
                    rw (eu, wm ∙ wx, is-next)
                    (behind_it_lem t.value (ahead_none t.value _ c'' z) (λ h. absurd (omega arith)) d.stands
                    (kept_at (omega arith) (kept_trans d.grows kept_there d.kept))
                    (join t (d.reach (values i rs)) reach-there (stops U.given)))
