-- One new row along a list: at each record it is an old row before it, a row of its run, or goes on; where it comes
-- from is its origin.
-- Assumes nothing.
use Prim.Native.Nat.{ℕ, suc, ◌+◌, ◌-◌, ◌≤◌, ◌<◌}
use native.Mathlib.Omega.{arith}
use mathlib.Core.Path.{◌≡◌, ap, subst}
use mathlib.Core.Bool.{true, ◌&&◌}
use mathlib.Core.List.{List, [], ◌∷◌}
use lib.Dec.{ltb}
use lib.ListN.{length, drop}
use Rattle.std.proofs.lemmas.List.{drop_all}
use borrow.Author.Tests.{lt-ltb}
use Rattle.std.specs.Prelude.{Result, Ok, Err, IsErrAnd}
use Rattle.std.proofs.lemmas.Result.{err_from_is_err_and}
use Rattle.plan.specs.declared.NewPre.{NewPre}
use Rattle.plan.specs.declared.Record.{Record}
use Rattle.plan.specs.declared.Stand.{Stand}
use Rattle.plan.specs.declared.Meeting.{Meeting}
use Rattle.plan.specs.declared.Meeting.TheVariants.{Vain, Renamed, Here}
use Rattle.plan.specs.declared.Source.{Source}
use Rattle.plan.specs.declared.Source.TheVariants.{Old, Run}
use Rattle.plan.specs.Verdict.{Passed}
use Rattle.plan.specs.declared.refusal.Refusal.{Refusal}
use Rattle.plan.specs.Tree.{count}
use Rattle.plan.specs.Table.{Table, even}
use Rattle.plan.specs.Paint.{Origin, old, new, origins}
use Rattle.plan.specs.Way.{old_pre}
use Rattle.plan.specs.Call.{result, judged, published_of, test}
use Rattle.plan.specs.Mapping.{origin_at, queried, came, was}
use Rattle.plan.specs.Told.{failed, was_told, judgement_told, verdict_told}
use Rattle.plan.proofs.Judged.{accepted-judged}
use Rattle.judge_record.specs.Way.{behind}
use Rattle.judge_record.proofs.Ways.{Turn, nothing, renames, here, way_low}
use Rattle.along.specs.Met.{met}
use Rattle.judge.proofs.Told.{failed-fails}
use Rattle.along.proofs.Told.{list-refused, judged_told, test_refused}
use Rattle.along.proofs.Reaching.{Reached, passes, way, turned, reached-more, next, place_is, here-old, here-run, last-old}

module _ (x : ℕ) (t i : Table) (l : List Record) where
  abbrev rows : ℕ
  rows = count (result t i l)

  -- the answer is right
  abbrev pub Right : Result Source Refusal → Type 0
  Right a = was_told a ≡ was (queried true t i l rows x) (origin_at (origins (result t i l)) x)

  -- the row goes on: it is not passed, and the records rs are left
  pub record Going (s : Stand) (rs : List Record) : Type 0 where
    pub reached : Reached t i l s rs
    pub ahead : s.out.0 ≤ x
    pub below : x < rows

  -- ---- the tests
  refused_so : (a : Result Source Refusal) (e : Refusal) → IsErrAnd a (λ f. f ≡ e)
      → queried true t i l rows x ≡ failed e → Right a
  refused_so a e k h = let p = err_from_is_err_and a k in let n = failed-fails e in rw (p.1, p.2, h, n.is)

  pub list_refused : (a : Result Source Refusal) (e : Refusal) → IsErrAnd a (λ f. f ≡ e)
      → judgement_told (Err e) ≡ published_of (even t && even i) t i l → Right a
  unfolding queried
  list_refused a e k h = refused_so a e k (list-refused _ _ (ltb x rows) 11 x 0 e h)

  module _ (n : ℕ) (h : judgement_told (Ok n) ≡ published_of (even t && even i) t i l) where
    pub row_refused : (a : Result Source Refusal) (e : Refusal) → IsErrAnd a (λ f. f ≡ e)
        → verdict_told (Err e) ≡ test (ltb x n) 11 x 0 → Right a
    unfolding queried
    row_refused a e k f =
        let needed = (judged_told _ _ (ltb x n) 11 x 0 n h).1 in
        refused_so a e k (test_refused _ _ _ 11 x 0 n e h (rw needed at f))

  followed : judged (even t && even i) t i l ≡ Passed → x < rows
      → (o : Origin) → origin_at (origins (result t i l)) x ≡ o
      → came o ≡ was (queried true t i l rows x) (origin_at (origins (result t i l)) x)
  unfolding queried
  followed tests b o e = rw (tests, lt-ltb x rows b, e)

  -- the row is not passed, and its old number fits
  pub fits : {s : Stand} {rs : List Record} → Going s rs
      → (s.out.0 ≤ x) × (s.row.0 + (x - s.out.0) < 4294967296)
  fits {s} {rs} h =
      let p = passes t i l h.reached.passed in (
        h.ahead,
        omega (
          arith,
          h.below,
          (accepted-judged (even t && even i) t i l h.reached.passed).few-rows,
          way_low t i l p s (length h.reached.done) rs (way t i l s rs h.reached),
        ),
      )

  -- ---- one record
  -- at a record where old rows stay or go, it is one that stays, one of the n rows of its run, or goes on
  pub record Passing (s : Stand) (k : ℕ) (rs : List Record) (n : ℕ) (next : Stand) : Type 0 where
    pub run : n ≤ next.out.0
    pub before : x < next.out.0 - n → Right (Ok (Old (old_pre (s.row.0 + (x - s.out.0)))))
    pub within : next.out.0 - n ≤ x → x < next.out.0 → Right (Ok (Run k (x - (next.out.0 - n))))
    pub behind : next.out.0 ≤ x → Going next rs

  abbrev Step : Stand → ℕ → List Record → Meeting → Type 0
  Step s k rs Vain = Going s rs
  Step s k rs (Renamed next) = Going next rs
  Step s k rs (Here at n next) = Passing s k rs n next

  module _ (s : Stand) (r : Record) (rs : List Record) (h : Going s (r ∷ rs)) where
    abbrev place : ℕ
    place = length h.reached.done

    told : {m : Meeting} → Turn t i l (passes t i l h.reached.passed) s place r rs m
        → Reached t i l (behind s m) rs → Step s place rs m
    told (nothing v e) q = record { reached = q; ahead = h.ahead; below = h.below }
    told (renames s' v a b e) q =
        record { reached = q; ahead = omega (arith, ap (λ (o : NewPre). o.0) b, h.ahead); below = h.below }
    told (here s' at n v a b c e) q =
        let p = passes t i l h.reached.passed in
        let w = way t i l s (r ∷ rs) h.reached in
        record {
          run = omega (arith, c);
          before = λ z. followed h.reached.passed h.below (old (s.row.0 + (x - s.out.0)))
              (here-old t i l p s s' place r rs at n w v a b c e x h.ahead z);
          within = λ z y. followed h.reached.passed h.below (new place (x - (s'.out.0 - n)))
              (here-run t i l p s s' place r rs at n w v a b c e x h.ahead z y);
          behind = λ y. record { reached = q; ahead = y; below = h.below };
        }

    stepped : Step s place rs (met t.size i.size s r)
    stepped = told (turned t i l s r rs h.reached) (reached-more t i l s r rs h.reached)

  -- record k is next
  pub step : {s : Stand} (k : ℕ) {r : Record} {m : Meeting} → Going s (drop k l) → drop k l ≡ r ∷ drop (suc k) l
      → m ≡ met t.size i.size s r → Step s k (drop (k + 1) l) m
  step {s} k {r} h e f =
      let on : suc k ≡ k + 1 = omega arith in
      let g : Going s (r ∷ drop (suc k) l) =
      record { reached = next t i l s k r h.reached e; ahead = h.ahead; below = h.below } in
      rw f (subst (λ (j : ℕ). Step s k (drop j l) (met t.size i.size s r)) on
      (rw (place_is t i l s k r h.reached e) at (stepped s r (drop (suc k) l) g)))

  -- ---- the end
  pub last : {s : Stand} (k : ℕ) → Going s (drop k l) → length l ≤ k
      → Right (Ok (Old (old_pre (s.row.0 + (x - s.out.0)))))
  last {s} k g m =
      let h : Going s [] = rw drop_all at g in
      followed h.reached.passed h.below (old (s.row.0 + (x - s.out.0)))
      (last-old t i l (passes t i l h.reached.passed) s (length h.reached.done)
      (way t i l s [] h.reached) x h.ahead h.below)
