-- From record to record, whatever the mapping: where it stands is a place on the way along a list that passed, so what
-- becomes of the rows up to the next record, and up to the end, is known.
-- Assumes nothing.
use Prim.Native.Nat.{ℕ, suc, ◌+◌, ◌-◌, ◌≤◌, ◌<◌}
use native.Mathlib.Omega.{arith}
use mathlib.Core.Path.{◌≡◌, refl, sym, ap, ◌∙◌, subst}
use mathlib.Core.Bool.{◌&&◌}
use mathlib.Core.List.{List, [], ◌∷◌, ◌++◌, append_assoc}
use lib.ListN.{length, drop, length-append, length-drop}
use Rattle.plan.specs.declared.Record.{Record}
use Rattle.plan.specs.declared.Stand.{Stand}
use Rattle.plan.specs.Verdict.{Passed}
use Rattle.plan.specs.Tree.{count}
use Rattle.plan.specs.Table.{Table, even}
use Rattle.plan.specs.Paint.{Origin, old, new, origins}
use Rattle.plan.specs.Way.{start}
use Rattle.plan.specs.Call.{result, judged}
use Rattle.plan.specs.Mapping.{row, gone, fate, origin_at}
use Rattle.plan.proofs.Kit.{T_and}
use Rattle.plan.proofs.Judged.{accepted-judged}
use Rattle.plan.proofs.FourKinds.{run-within}
use Rattle.plan.proofs.AtRecord.{passed-fate}
use Rattle.plan.proofs.Following.{spliced, at_before, at-run, fate-before, fate-behind, at_last, fate-last}
use Rattle.judge_record.specs.Way.{behind, stands}
use Rattle.judge_record.proofs.Ways.{Passes, tree, rows, ahead, Way, Turn, turn, meets, way_ends_low, way_start, way_on, way_origin, last-ahead, all_rows}
use Rattle.along.specs.Met.{Meetable, met}

-- the list l passed the tests, and the records of it that are done led to s; the records rs are left
pub record Reached (t i : Table) (l : List Record) (s : Stand) (rs : List Record) : Type 0 where
  pub passed : judged (even t && even i) t i l ≡ Passed
  pub done : List Record
  pub parts : l ≡ done ++ rs
  pub there : s ≡ stands t.size i.size start done

-- one record more
pub stands-more : (size isize : List ℕ) (s : Stand) (ps : List Record) (r : Record)
    → let q = stands size isize s ps in
    stands size isize s (ps ++ (r ∷ [])) ≡ behind q (met size isize q r)
stands-more size isize s [] r = refl
stands-more size isize s (p ∷ ps) r =
    stands-more size isize (behind s (met size isize s p)) ps r

module _ (t i : Table) (l : List Record) where
  -- ---- where it stands
  abbrev pub passes : judged (even t && even i) t i l ≡ Passed → Passes t i l
  passes e =
      let a = accepted-judged (even t && even i) t i l e in
      record {
        table-sound = a.table-sound;
        insertions-even = (T_and (even t) (even i) a.columns-even).1;
        few = a.few-records;
        passed = a.all_pass;
      }

  module _ (s : Stand) (rs : List Record) (h : Reached t i l s rs) where
    abbrev pub place : ℕ
    place = length h.done

    pub way : Way t i l (passes h.passed) s place rs
    way =
        let p = passes h.passed in
        let z : 0 + place ≡ place = omega arith in
        subst (λ (q : Stand). Way t i l p q place rs) (sym h.there)
        (subst (λ (k : ℕ). Way t i l p (stands t.size i.size start h.done) k rs) z
        (way_on t i l p h.done rs start 0
        (subst (λ (ps : List Record). Way t i l p start 0 ps) h.parts (way_start t i l p))))

  module _ (s : Stand) (r : Record) (rs : List Record) (h : Reached t i l s (r ∷ rs)) where
    pub turned : Turn t i l (passes h.passed) s (length h.done) r rs
        (met t.size i.size s r)
    turned = turn t i l (passes h.passed) s (length h.done) r rs (way s (r ∷ rs) h)

    meetable : Meetable t.size i.size s r
    meetable =
        let p = passes h.passed in
        let w = way s (r ∷ rs) h in
        record {
          ends = way_ends_low t i l p s (length h.done) r rs w;
          runs = λ k. (run-within i r w.passes.0.run_sound k).0;
          meets = meets t i l p s (length h.done) r rs w;
        }

    abbrev pub reached-more : Reached t i l (behind s (met t.size i.size s r)) rs
    reached-more =
        record {
          passed = h.passed;
          done = h.done ++ (r ∷ []);
          parts = h.parts ∙ sym (append_assoc h.done (r ∷ []) rs);
          there = ap (λ (q : Stand). behind q (met t.size i.size q r)) h.there
              ∙ sym (stands-more t.size i.size start h.done r);
        }

  -- record k is next
  module _ (s : Stand) (k : ℕ) (r : Record) (h : Reached t i l s (drop k l))
      (e : drop k l ≡ r ∷ drop (suc k) l) where
    abbrev pub next : Reached t i l s (r ∷ drop (suc k) l)
    next =
        record {
          passed = h.passed;
          done = h.done;
          parts = h.parts ∙ ap (λ (rs : List Record). h.done ++ rs) e;
          there = h.there;
        }

    pub asks : Meetable t.size i.size s r
    asks = meetable s r (drop (suc k) l) next

    pub place_is : length h.done ≡ k
    place_is =
        omega (
          arith,
          ap length next.parts,
          length-append h.done (r ∷ drop (suc k) l),
          length-drop k l,
          ap length e,
        )

    pub few-records : k < 1024
    few-records = omega (arith, (passes h.passed).few, length-drop k l, ap length e)

  -- ---- the rows up to a record at which old rows stay or go
  module _ (p : Passes t i l) (s s' : Stand) (j : ℕ) (r : Record) (rs : List Record) (at n : ℕ)
      (w : Way t i l p s j (r ∷ rs)) (v : Way t i l p s' (suc j) rs)
      (a : s.row.0 ≤ at) (b : at ≤ s'.row.0) (c : s'.out.0 ≡ s.out.0 + (at - s.row.0) + n)
      (d : ahead t i l p s j (r ∷ rs) ≡ spliced s.row.0 at j n (ahead t i l p s' (suc j) rs)) where
    abbrev os : List Origin
    os = ahead t i l p s' (suc j) rs

    abbrev first : ℕ
    first = s'.out.0 - n

    -- an old row
    old-told : (x : ℕ) → s.row.0 ≤ x
        → fate (origins (result t i l)) 0 x ≡ fate (spliced s.row.0 at j n os) s.out.0 x
    old-told x h = sym (w.fates x h) ∙ ap (λ (ps : List Origin). fate ps s.out.0 x) d

    pub here-row : (x : ℕ) → s.row.0 ≤ x → x < at
        → fate (origins (result t i l)) 0 x ≡ row (s.out.0 + (x - s.row.0))
    here-row x h k = old-told x h ∙ fate-before s.row.0 at j n os s.out.0 x h k

    pub here-gone : (x : ℕ) → at ≤ x → x < s'.row.0 → fate (origins (result t i l)) 0 x ≡ gone
    here-gone x h k =
        old-told x (omega arith) ∙ (fate-behind s.row.0 at j n os s.out.0 x a h
        ∙ passed-fate (tree t i l p) i (rows t i l p) p.insertions-even s'.row.0 s'.first.0 s'.end.0
        (suc j) rs _ x v.goes k)

    -- a new row
    new_told : (x : ℕ) → s.out.0 ≤ x
        → origin_at (origins (result t i l)) x ≡ origin_at (spliced s.row.0 at j n os) (x - s.out.0)
    new_told x h =
        sym (way_origin t i l p s j (r ∷ rs) w x h) ∙ ap (λ (ps : List Origin). origin_at ps (x - s.out.0)) d

    pub here-old : (x : ℕ) → s.out.0 ≤ x → x < first
        → origin_at (origins (result t i l)) x ≡ old (s.row.0 + (x - s.out.0))
    here-old x h k = new_told x h ∙ at_before s.row.0 at j n os (x - s.out.0) (omega (arith, c))

    pub here-run : (x : ℕ) → s.out.0 ≤ x → first ≤ x → x < s'.out.0
        → origin_at (origins (result t i l)) x ≡ new j (x - first)
    here-run x h k m =
        new_told x h ∙ (at-run s.row.0 at j n os (x - s.out.0) (omega (arith, c)) (omega (arith, c))
        ∙ ap (new j) (omega (arith, c)))

  -- ---- the rows behind the last record
  module _ (p : Passes t i l) (s : Stand) (j : ℕ) (w : Way t i l p s j []) (x : ℕ) where
    pub last_row : s.row.0 ≤ x → x < length t.size
        → fate (origins (result t i l)) 0 x ≡ row (s.out.0 + (x - s.row.0))
    last_row h k =
        sym (w.fates x h) ∙ (ap (λ (os : List Origin). fate os s.out.0 x) (last-ahead t i l p s j)
        ∙ fate-last s.row.0 (length t.size) s.out.0 x h k)

    pub last-old : s.out.0 ≤ x → x < count (result t i l)
        → origin_at (origins (result t i l)) x ≡ old (s.row.0 + (x - s.out.0))
    last-old h k =
        sym (way_origin t i l p s j [] w x h)
        ∙ (ap (λ (os : List Origin). origin_at os (x - s.out.0)) (last-ahead t i l p s j)
        ∙ at_last s.row.0 (length t.size) (x - s.out.0) (omega (arith, all_rows t i l p s j w)))
