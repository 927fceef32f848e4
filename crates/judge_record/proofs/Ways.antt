-- The way along a list that passed tests 4 to 8: what each record does to the rows is what its change does, so at each
-- record we know which of the result's origins are still to come, and where an old row that is not passed will be.
-- Assumes nothing.
use Prim.Native.Nat.{ℕ, suc, ◌+◌, ◌-◌, ◌*◌, ◌≤◌, ◌<◌}
use native.Mathlib.Omega.{arith}
use mathlib.Core.Path.{◌≡◌, refl, sym, ap, ◌∙◌, subst}
use mathlib.Core.Bool.{true, false, cond}
use mathlib.Core.List.{List, [], ◌∷◌, ◌++◌}
use lib.Dec.{T}
use lib.ListN.{length, get_or, drop, length-drop, length-append}
use lib.Seq.{length-take-le, drop-drop, drop_at, get_or-drop}
use Rattle.std.proofs.lemmas.Bool.Decides.{nat_tests}
use Rattle.plan.specs.declared.Record.{Record}
use Rattle.std.specs.Prelude.{Option, Some, None}
use Rattle.plan.specs.declared.Stand.{Stand}
use Rattle.plan.specs.declared.Meeting.{Meeting}
use Rattle.plan.specs.declared.Meeting.TheVariants.{Vain, Renamed, Here}
use Rattle.plan.specs.Tree.{Forest, count}
use Rattle.plan.specs.Table.{Table, even, sound, run}
use Rattle.plan.specs.Paint.{Origin, old, new, Painted, plan, origins}
use Rattle.plan.specs.Records.{is_rename, changes, known, located, runs}
use Rattle.plan.specs.Way.{old_pre, has_run, removes_rows, vain, brought, taken, taken_from, goes_on_at, stand, start, meeting}
use Rattle.plan.specs.Call.{result, most_records}
use Rattle.plan.specs.Mapping.{fate, origin_at}
use Rattle.plan.proofs.Kit.{T_of, cond_elim}
use Rattle.plan.proofs.Tests.{even_of}
use Rattle.plan.proofs.Fits.{changes_read, fits}
use Rattle.plan.proofs.Tested.{PassAll, all_located, all_ordered}
use Rattle.plan.proofs.Planned.{plan-sizes, plan-length}
use Rattle.table.proofs.Parents.{sound_lengths}
use Rattle.plan.proofs.Trimmed.{trimmed, trimmed_kept}
use Rattle.plan.proofs.Merge.{chain_most}
use Rattle.plan.proofs.Mapping.{rows_of, track, length-rows, length-origins}
use Rattle.plan.proofs.Origins.{Fair, kept_of, kept_follow, origins-result}
use Rattle.plan.proofs.AtRecord.{Left, Goes, still_to_come, lost-left, kept-ahead, renamed-goes, renamed-come, other_goes, other-come, last-come}
use Rattle.plan.proofs.Following.{spliced, fate-behind}
use Rattle.judge_record.proofs.Places.{ends_low as rows_inside}
use Rattle.judge_record.specs.Way.{EndsLow, Meets, behind, stands}

-- a list that passes tests 2 to 8, on even insertions
pub record Passes (t i : Table) (l : List Record) : Type 0 where
  pub table-sound : T (sound t)
  pub insertions-even : T (even i)
  pub few : length l ≤ most_records
  pub passed : PassAll (plan old t) i None l

-- ---- a record that passed
-- a sound table has few rows, and so has a run
pub rows_few : (t : Table) → T (sound t) → length t.size ≤ 65535
rows_few t h = (sound_lengths t h).few

run_short : (i : Table) (r : Record) → T (runs i r) → has_run r ≡ true → get_or i.size r.from 0 ≤ 65535
unfolding runs run
run_short i r h w =
    let f : ℕ = r.from in
    let n : ℕ = get_or i.size f 0 in
    let rows : List ℕ = drop f i.size in
    grind (arith, nat_tests, rows_few (run i f), length-take-le n rows, length-drop f i.size)

pub run-few : (i : Table) (r : Record) → T (runs i r) → brought i.size r ≤ 65535
run-few i r h = let z = run_short i r h in grind (arith, nat_tests)

-- the row of a record that takes rows away
row_inside : {A : Type 0} (f : Forest A) (r : Record) → T (located f r) → T (removes_rows r) → r.location < count f
unfolding located
row_inside f r t h = grind (arith, nat_tests)

-- the rows that it takes away lie in the table
pub ends_low : (t : Table) (r : Record) → T (sound t) → T (located (plan old t) r) → EndsLow t.size r
ends_low t r s h =
    let inside : T (removes_rows r) → r.location < length t.size =
    λ w. omega (arith, plan-length old t s, row_inside (plan old t) r h w) in
    record {
      at_row = inside;
      low = λ w. omega (arith, rows_few t s, rows_inside t.dist t.size t.value s r.location (inside w));
    }

-- the rows that it takes away end where the rows go on
end_is : (size : List ℕ) (r : Record) → taken_from r + taken size r ≡ cond (removes_rows r) (goes_on_at size r) 0
end_is size r = grind (arith, nat_tests)

spliced_long : (q at j n : ℕ) (os : List Origin) → length (spliced q at j n os) ≡ (at - q) + n + length os
spliced_long q at j n os =
    omega (
      arith,
      length-append (rows_of old q (at - q)) (rows_of (new j) 0 n ++ os),
      length-append (rows_of (new j) 0 n) os,
      length-rows old q (at - q),
      length-rows (new j) 0 n,
    )

spliced_past : (q at j n : ℕ) (os : List Origin) → drop ((at - q) + n) (spliced q at j n os) ≡ os
spliced_past q at j n os =
    let olds : List Origin = rows_of old q (at - q) in
    let news : List Origin = rows_of (new j) 0 n in
    sym (drop-drop n (at - q) (spliced q at j n os))
    ∙ (ap (drop n) (drop_at olds (news ++ os) (at - q) (length-rows old q (at - q)))
    ∙ drop_at news os n (length-rows (new j) 0 n))

-- ---- the way
module _ (t i : Table) (l : List Record) (p : Passes t i l) where
  abbrev pub tree : Forest Painted
  tree = plan old t

  abbrev pub rows : ℕ
  rows = length t.size

  -- the origins to come, where record j and those behind it are rs
  abbrev pub ahead : Stand → ℕ → List Record → List Origin
  ahead s j rs = still_to_come tree i rows p.insertions-even s.row.0 s.first.0 s.end.0 j rs

  -- the way stands right before record j, and the records rs are left
  pub record Way (s : Stand) (j : ℕ) (rs : List Record) : Type 0 where
    pub before : Option Record
    pub passes : PassAll tree i before rs
    pub goes : Goes tree i rows p.insertions-even s.row.0 s.first.0 s.end.0 j rs
    pub few : s.out.0 ≤ j * 131070
    pub places : j + length rs ≡ length l
    pub all : s.out.0 + length (ahead s j rs) ≡ count (result t i l)
    pub to_come : ahead s j rs ≡ drop s.out.0 (origins (result t i l))
    pub fates : (x : ℕ) → s.row.0 ≤ x → fate (ahead s j rs) s.out.0 x ≡ fate (origins (result t i l)) 0 x

  -- it stands at a row of the table, or behind the last
  pub way_inside : (s : Stand) (j : ℕ) (rs : List Record) → Way s j rs → s.row.0 ≤ rows
  way_inside s j rs w =
      chain_most tree s.row.0 rows (Left tree i rows p.insertions-even s.first.0 s.end.0 j rs)
      w.goes

  pub way_low : (s : Stand) (j : ℕ) (rs : List Record) → Way s j rs → s.row.0 ≤ 65535
  way_low s j rs w = omega (arith, way_inside s j rs w, rows_few t p.table-sound)

  pub way_few : (s : Stand) (j : ℕ) (rs : List Record) → Way s j rs → s.out.0 ≤ 134215680
  way_few s j rs w = omega (arith, w.few, w.places, p.few)

  even-table : T (even t)
  even-table =
      let w = sound_lengths t p.table-sound in
      T_of (even t) (even_of t w.dist w.value)

  pub fair : Fair t l
  fair =
      record {
        even-columns = even-table;
        places = all_located tree i None l p.passed;
        order = all_ordered tree i None l p.passed;
      }

  same_kept : trimmed tree 0 0 (changes i 0 l) ≡ kept_of t i l
  same_kept = trimmed_kept tree (changes i 0 l) (fits tree (changes_read i 0 l) fair.places fair.order)

  pub all_ahead : origins (result t i l) ≡ ahead start 0 l
  all_ahead = rw same_kept (origins-result t i l fair)

  pub way_start : Way start 0 l
  way_start =
      record {
        before = None;
        passes = p.passed;
        goes = rw same_kept (kept_follow t i l fair);
        few = omega arith;
        places = omega arith;
        all = omega (arith, ap length all_ahead, length-origins (result t i l));
        to_come = sym all_ahead;
        fates = λ x h. ap (λ (os : List Origin). fate os 0 x) (sym all_ahead);
      }

  -- ---- one record: what it leaves to come
  pub data Turn (s : Stand) (j : ℕ) (r : Record) (rs : List Record) : Meeting → Type 0 where
    nothing : Way s (suc j) rs → ahead s j (r ∷ rs) ≡ ahead s (suc j) rs → Turn s j r rs Vain
    renames : (s' : Stand) → Way s' (suc j) rs → s'.row ≡ s.row → s'.out ≡ s.out
        → ahead s j (r ∷ rs) ≡ ahead s' (suc j) rs → Turn s j r rs (Renamed s')
    here : (s' : Stand) (at n : ℕ) → Way s' (suc j) rs → s.row.0 ≤ at → at ≤ s'.row.0
        → s'.out.0 ≡ s.out.0 + (at - s.row.0) + n
        → ahead s j (r ∷ rs) ≡ spliced s.row.0 at j n (ahead s' (suc j) rs) → Turn s j r rs (Here (old_pre at) n s')

  -- what the record does, on this table
  abbrev pub met : Stand → Record → Meeting
  met s r = meeting s r (goes_on_at t.size r) (brought i.size r)

  module _ (s : Stand) (j : ℕ) (r : Record) (rs : List Record) (w : Way s j (r ∷ rs)) where
    abbrev a : ℕ
    a = s.first.0

    abbrev b : ℕ
    b = s.end.0

    abbrev q : ℕ
    q = s.row.0

    abbrev even-runs : T (even i)
    even-runs = p.insertions-even

    abbrev is_known : T (known r)
    is_known = w.passes.0.kind-known

    abbrev has_runs : T (runs i r)
    has_runs = w.passes.0.run_sound

    -- where the rows go on behind it
    abbrev goes_at : ℕ
    goes_at = goes_on_at t.size r

    abbrev n : ℕ
    n = brought i.size r

    way_of : (s' : Stand) → Goes tree i rows even-runs s'.row.0 s'.first.0 s'.end.0 (suc j) rs
        → s'.out.0 ≤ s.out.0 + 131070
        → s'.out.0 + length (ahead s' (suc j) rs) ≡ s.out.0 + length (ahead s j (r ∷ rs))
        → ahead s' (suc j) rs ≡ drop (s'.out.0 - s.out.0) (ahead s j (r ∷ rs)) → s.out.0 ≤ s'.out.0
        → ((x : ℕ) → s'.row.0 ≤ x
        → fate (ahead s' (suc j) rs) s'.out.0 x ≡ fate (origins (result t i l)) 0 x)
        → Way s' (suc j) rs
    way_of s' g f e d m h =
        let os : List Origin = origins (result t i l) in
        let there : s.out.0 + (s'.out.0 - s.out.0) ≡ s'.out.0 = omega arith in
        record {
          before = Some r;
          passes = w.passes.1;
          goes = g;
          few = omega (arith, w.few);
          places = omega (arith, w.places);
          all = e ∙ w.all;
          to_come = d ∙ (ap (drop (s'.out.0 - s.out.0)) w.to_come
              ∙ (drop-drop (s'.out.0 - s.out.0) s.out.0 os ∙ ap (λ (z : ℕ). drop z os) there));
          fates = h;
        }

    -- a record that leaves the origins to come as they are
    same_way : (s' : Stand) → s'.row.0 ≡ s.row.0 → s'.out.0 ≡ s.out.0
        → Goes tree i rows even-runs s'.row.0 s'.first.0 s'.end.0 (suc j) rs
        → ahead s j (r ∷ rs) ≡ ahead s' (suc j) rs → Way s' (suc j) rs
    same_way s' x y g e =
        let none : s'.out.0 - s.out.0 ≡ 0 = omega arith in
        way_of s' g (omega arith) (omega (arith, ap length e)) (rw none (sym e)) (omega arith)
        (λ z h. rw (← e, y) (w.fates z (omega arith)))

    turn_vain : vain a b r ≡ true → Turn s j r rs Vain
    turn_vain e =
        let z = lost-left tree i rows even-runs q a b j r rs is_known has_runs w.goes e in
        let same = ap (track tree q rows) z in
        nothing (same_way s refl refl (rw z at w.goes) same) same

    turn_renamed : vain a b r ≡ false → is_rename r ≡ true → Turn s j r rs (Renamed (stand q s.out.0 0 0))
    turn_renamed e o =
        let s' : Stand = stand q s.out.0 0 0 in
        let g = renamed-goes tree i rows even-runs q a b j r rs is_known has_runs w.goes e o in
        let same = renamed-come tree i rows even-runs q a b j r rs is_known has_runs w.goes e o in
        renames s' (same_way s' refl refl g same) refl refl same

    module _ (e : vain a b r ≡ false) where
      not_behind : q ≤ r.location
      not_behind = kept-ahead tree i rows even-runs q a b j r rs is_known has_runs w.goes e

      module _ (o : is_rename r ≡ false) where
        goes-behind : Goes tree i rows even-runs goes_at (taken_from r) (cond (removes_rows r) goes_at 0) (suc j) rs
        goes-behind =
            subst (λ (z : ℕ). Goes tree i rows even-runs goes_at (taken_from r) z (suc j) rs) (end_is t.size r)
            (subst (λ (z : List ℕ). Goes tree i rows even-runs (goes_on_at z r) (taken_from r)
            (taken_from r + taken z r) (suc j) rs)
            (plan-sizes old t p.table-sound)
            (other_goes tree i rows even-runs q a b j r rs is_known has_runs w.goes e o))

        come-behind : ahead s j (r ∷ rs)
            ≡ spliced q r.location j n
            (still_to_come tree i rows even-runs goes_at (taken_from r) (cond (removes_rows r) goes_at 0) (suc j) rs)
        come-behind =
            subst (λ (z : ℕ). ahead s j (r ∷ rs) ≡ spliced q r.location j n
            (still_to_come tree i rows even-runs goes_at (taken_from r) z (suc j) rs)) (end_is t.size r)
            (subst (λ (z : List ℕ). ahead s j (r ∷ rs) ≡ spliced q r.location j n
            (still_to_come tree i rows even-runs (goes_on_at z r) (taken_from r) (taken_from r + taken z r) (suc j) rs))
            (plan-sizes old t p.table-sound)
            (other-come tree i rows even-runs q a b j r rs is_known has_runs w.goes e o))

        -- the rows go on within the table
        inside : goes_at ≤ rows
        inside =
            chain_most tree goes_at rows
            (Left tree i rows even-runs (taken_from r) (cond (removes_rows r) goes_at 0) (suc j) rs) goes-behind

        turn_here : Turn s j r rs (Here (old_pre r.location) n
            (stand goes_at (s.out.0 + (r.location - q) + n) (taken_from r) (cond (removes_rows r) goes_at 0)))
        turn_here =
            let s' : Stand =
            stand goes_at (s.out.0 + (r.location - q) + n) (taken_from r) (cond (removes_rows r) goes_at 0) in
            let os : List Origin = ahead s' (suc j) rs in
            let on : s'.out.0 - s.out.0 ≡ (r.location - q) + n = omega arith in
            here s' r.location n
            (way_of s' goes-behind
            (omega (arith, inside, rows_few t p.table-sound, run-few i r has_runs))
            (omega (arith, ap length come-behind, spliced_long q r.location j n os))
            (rw on (sym (ap (drop ((r.location - q) + n)) come-behind ∙ spliced_past q r.location j n os)))
            (omega arith)
            (λ x h. sym (fate-behind q r.location j n os s.out.0 x not_behind (omega arith))
            ∙ (ap (λ (ps : List Origin). fate ps s.out.0 x) (sym come-behind)
            ∙ w.fates x (omega (arith, not_behind)))))
            not_behind (omega arith) refl come-behind

        few-behind : s.out.0 + (r.location - q) + n < 4294967296
        few-behind =
            omega
            (arith, w.few, w.places, p.few, inside, rows_few t p.table-sound, run-few i r has_runs)

    pub turn : Turn s j r rs (met s r)
    turn =
        cond_elim (Turn s j r rs) (vain a b r) _ _ turn_vain
        (λ e. cond_elim (Turn s j r rs) (is_rename r) _ _ (turn_renamed e) (turn_here e))

    -- and it can be met
    pub meets : Meets s r (brought i.size r)
    meets = record { ahead = λ e o. not_behind e; few = few-behind }

    pub way_ends_low : EndsLow t.size r
    way_ends_low = ends_low t r p.table-sound w.passes.0.in_place

  -- ---- the records up to the next, and up to the end
  turned : (s : Stand) (j : ℕ) (r : Record) (rs : List Record) {m : Meeting} → Turn s j r rs m
      → Way (behind s m) (suc j) rs
  turned s j r rs (nothing v e) = v
  turned s j r rs (renames s' v a b e) = v
  turned s j r rs (here s' at n v a b c e) = v

  pub way_on : (ps rs : List Record) (s : Stand) (j : ℕ) → Way s j (ps ++ rs)
      → Way (stands t.size i.size s ps) (j + length ps) rs
  way_on [] rs s j w = subst (λ (k : ℕ). Way s k rs) (omega arith) w
  way_on (r ∷ ps) rs s j w =
      subst (λ (k : ℕ). Way (stands t.size i.size s (r ∷ ps)) k rs) (omega arith)
      (way_on ps rs (behind s (met s r)) (suc j) (turned s j r (ps ++ rs) (turn s j r (ps ++ rs) w)))

  -- behind the last record the old rows go on to the end
  pub last-ahead : (s : Stand) (j : ℕ) → ahead s j [] ≡ rows_of old s.row.0 (rows - s.row.0)
  last-ahead s j = last-come tree i rows p.insertions-even s.row.0 s.first.0 s.end.0 j

  -- a new row that is not passed comes from where the origins to come say
  pub way_origin : (s : Stand) (j : ℕ) (rs : List Record) → Way s j rs → (x : ℕ) → s.out.0 ≤ x
      → origin_at (ahead s j rs) (x - s.out.0) ≡ origin_at (origins (result t i l)) x
  way_origin s j rs w x h =
      let os : List Origin = origins (result t i l) in
      let there : s.out.0 + (x - s.out.0) ≡ x = omega arith in
      ap (λ (ps : List Origin). origin_at ps (x - s.out.0)) w.to_come
      ∙ (get_or-drop s.out.0 os (x - s.out.0) (old 0) ∙ ap (λ (z : ℕ). origin_at os z) there)

  pub all_rows : (s : Stand) (j : ℕ) → Way s j [] → s.out.0 + (rows - s.row.0) ≡ count (result t i l)
  all_rows s j w =
      omega (arith, w.all, ap length (last-ahead s j), length-rows old s.row.0 (rows - s.row.0))

-- where the way stands behind some records of the list
pub way_at : (t i : Table) (ps rs : List Record) (p : Passes t i (ps ++ rs))
    → Way t i (ps ++ rs) p (stands t.size i.size start ps) (length ps) rs
way_at t i ps rs p =
    subst (λ (k : ℕ). Way t i (ps ++ rs) p (stands t.size i.size start ps) k rs) (omega arith)
    (way_on t i (ps ++ rs) p ps rs start 0 (way_start t i (ps ++ rs) p))
