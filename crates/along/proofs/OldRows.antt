-- One old row along a list: at each record it stands before it, goes with it, or goes on; what it becomes is its fate
-- among the origins.
-- Assumes nothing.
use Prim.Native.Nat.{ℕ, suc, ◌+◌, ◌-◌, ◌≤◌, ◌<◌}
use native.Mathlib.Omega.{arith}
use mathlib.Core.Path.{◌≡◌, ap}
use mathlib.Core.Bool.{true, ◌&&◌}
use mathlib.Core.List.{List, [], ◌∷◌}
use lib.Dec.{ltb}
use lib.ListN.{length, drop}
use Rattle.std.proofs.lemmas.List.{drop_all}
use borrow.Author.Tests.{lt-ltb}
use Rattle.std.specs.Prelude.{Option, Some, None, Result, Ok, Err, IsErrAnd}
use Rattle.std.proofs.lemmas.Result.{err_from_is_err_and}
use Rattle.plan.specs.declared.OldPre.{OldPre}
use Rattle.plan.specs.declared.NewPre.{NewPre}
use Rattle.plan.specs.declared.Record.{Record}
use Rattle.plan.specs.declared.Stand.{Stand}
use Rattle.plan.specs.declared.Meeting.{Meeting}
use Rattle.plan.specs.declared.Meeting.TheVariants.{Vain, Renamed, Here}
use Rattle.plan.specs.Verdict.{Passed}
use Rattle.plan.specs.declared.refusal.Refusal.{Refusal}
use Rattle.plan.specs.Table.{Table, even}
use Rattle.plan.specs.Paint.{origins}
use Rattle.plan.specs.Way.{new_pre}
use Rattle.plan.specs.Call.{result, judged, published_of, test}
use Rattle.plan.specs.Mapping.{Fate, row, gone, fate, queried, went, became}
use Rattle.plan.specs.Told.{failed, became_told, judgement_told, verdict_told}
use Rattle.judge_record.specs.Way.{behind}
use Rattle.judge_record.proofs.Ways.{Turn, nothing, renames, here, rows_few, way_few}
use Rattle.along.specs.Met.{met}
use Rattle.judge.proofs.Told.{failed-fails}
use Rattle.along.proofs.Told.{list-refused, test_refused}
use Rattle.along.proofs.Reaching.{Reached, passes, way, turned, reached-more, here-row, here-gone, last_row}

module _ (x : ℕ) (t i : Table) (l : List Record) where
  -- the answer is right
  abbrev pub Right : Result (Option NewPre) Refusal → Type 0
  Right a = became_told a ≡ became (queried true t i l (length t.size) x) (fate (origins (result t i l)) 0 x)

  -- the row goes on: it is not passed, and the records rs are left
  pub record Going (s : Stand) (rs : List Record) : Type 0 where
    pub reached : Reached t i l s rs
    pub ahead : s.row.0 ≤ x
    pub below : x < length t.size

  -- ---- the tests
  refused_so : (a : Result (Option NewPre) Refusal) (e : Refusal) → IsErrAnd a (λ f. f ≡ e)
      → queried true t i l (length t.size) x ≡ failed e → Right a
  refused_so a e k h = let p = err_from_is_err_and a k in let n = failed-fails e in rw (p.1, p.2, h, n.is)

  pub list_refused : (a : Result (Option NewPre) Refusal) (e : Refusal) → IsErrAnd a (λ f. f ≡ e)
      → judgement_told (Err e) ≡ published_of (even t && even i) t i l → Right a
  unfolding queried
  list_refused a e k h = refused_so a e k (list-refused _ _ (ltb x (length t.size)) 11 x 0 e h)

  module _ (n : ℕ) (h : judgement_told (Ok n) ≡ published_of (even t && even i) t i l) where
    pub row_refused : (a : Result (Option NewPre) Refusal) (e : Refusal) → IsErrAnd a (λ f. f ≡ e)
        → verdict_told (Err e) ≡ test (ltb x (length t.size)) 11 x 0 → Right a
    unfolding queried
    row_refused a e k f = refused_so a e k (test_refused _ _ _ 11 x 0 n e h f)

  followed : judged (even t && even i) t i l ≡ Passed → x < length t.size
      → (f : Fate) → fate (origins (result t i l)) 0 x ≡ f
      → went f ≡ became (queried true t i l (length t.size) x) (fate (origins (result t i l)) 0 x)
  unfolding queried
  followed tests b f e = rw (tests, lt-ltb x (length t.size) b, e)

  -- the row is not passed, and its new number fits
  pub fits : {s : Stand} {rs : List Record} → Going s rs → (s.row.0 ≤ x) × (s.out.0 + (x - s.row.0) < 4294967296)
  fits {s} {rs} h =
      let p = passes t i l h.reached.passed in (
        h.ahead,
        omega (
          arith,
          h.below,
          rows_few t p.table-sound,
          way_few t i l p s (length h.reached.done) rs (way t i l s rs h.reached),
        ),
      )

  -- ---- one record
  -- at a record where old rows stay or go, it is one that stays, one that goes, or it goes on
  pub record Passing (s : Stand) (rs : List Record) (at : ℕ) (next : Stand) : Type 0 where
    pub before : x < at → Right (Ok (Some (new_pre (s.out.0 + (x - s.row.0)))))
    pub taken : at ≤ x → x < next.row.0 → Right (Ok None)
    pub behind : next.row.0 ≤ x → Going next rs

  abbrev Step : Stand → List Record → Meeting → Type 0
  Step s rs Vain = Going s rs
  Step s rs (Renamed next) = Going next rs
  Step s rs (Here at n next) = Passing s rs at.0 next

  module _ (s : Stand) (r : Record) (rs : List Record) (h : Going s (r ∷ rs)) where
    told : {m : Meeting} → Turn t i l (passes t i l h.reached.passed) s (length h.reached.done) r rs m
        → Reached t i l (behind s m) rs → Step s rs m
    told (nothing v e) k = record { reached = k; ahead = h.ahead; below = h.below }
    told (renames s' v a b e) k =
        record { reached = k; ahead = omega (arith, ap (λ (q : OldPre). q.0) a, h.ahead); below = h.below }
    told (here s' at n v a b c e) k =
        let p = passes t i l h.reached.passed in
        let w = way t i l s (r ∷ rs) h.reached in
        let j : ℕ = length h.reached.done in
        record {
          before = λ z. followed h.reached.passed h.below (row (s.out.0 + (x - s.row.0)))
              (here-row t i l p s s' j r rs at n w v a b c e x h.ahead z);
          taken = λ z y. followed h.reached.passed h.below gone
              (here-gone t i l p s s' j r rs at n w v a b c e x z y);
          behind = λ y. record { reached = k; ahead = y; below = h.below };
        }

    stepped : Step s rs (met t.size i.size s r)
    stepped = told (turned t i l s r rs h.reached) (reached-more t i l s r rs h.reached)

  -- record k is next
  pub step : {s : Stand} (k : ℕ) {r : Record} {m : Meeting} → Going s (drop k l) → drop k l ≡ r ∷ drop (suc k) l
      → m ≡ met t.size i.size s r → Step s (drop (k + 1) l) m
  step {s} k {r} h e f =
      let on : k + 1 ≡ suc k = omega arith in
      rw (f, on) (stepped s r (drop (suc k) l) (rw e at h))

  -- ---- the end
  pub last : {s : Stand} (k : ℕ) → Going s (drop k l) → length l ≤ k
      → Right (Ok (Some (new_pre (s.out.0 + (x - s.row.0)))))
  last {s} k g m =
      let h : Going s [] = rw drop_all at g in
      followed h.reached.passed h.below (row (s.out.0 + (x - s.row.0)))
      (last_row t i l (passes t i l h.reached.passed) s (length h.reached.done)
      (way t i l s [] h.reached) x h.ahead h.below)
