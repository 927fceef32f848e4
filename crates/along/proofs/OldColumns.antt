-- Every old row along a list: what is still to be laid over the column at each record, over what is there, is the whole
-- column of new numbers.
-- Assumes nothing.
use Prim.Native.Nat.{ℕ, zero, suc, ◌+◌, ◌-◌, ◌≤◌, ◌<◌}
use native.Mathlib.Omega.{arith}
use mathlib.Core.Path.{◌≡◌, refl, sym, ap, ◌∙◌, subst}
use mathlib.Core.Bool.{true, ◌&&◌}
use mathlib.Core.List.{List, [], ◌∷◌, ◌++◌}
use lib.Dec.{leb}
use lib.ListN.{length, take, drop, replicate, length-replicate}
use borrow.Author.Tests.{le-leb}
use borrow.Rule.Slice.PartMut.{put_mid}
use Rattle.std.proofs.lemmas.List.{drop_all}
use Rattle.std.specs.Prelude.{Result, Ok, Err, IsErrAnd}
use Rattle.std.proofs.lemmas.Result.{err_from_is_err_and}
use Rattle.plan.specs.declared.Record.{Record}
use Rattle.plan.specs.declared.Stand.{Stand}
use Rattle.plan.specs.declared.Meeting.{Meeting}
use Rattle.plan.specs.declared.Meeting.TheVariants.{Vain, Renamed, Here}
use Rattle.plan.specs.Verdict.{Passed}
use Rattle.plan.specs.declared.refusal.Refusal.{Refusal}
use Rattle.plan.specs.Answer.{accepted}
use Rattle.plan.specs.Table.{Table, even}
use Rattle.plan.specs.Paint.{Origin, origins}
use Rattle.plan.specs.Call.{result, judged, published_of, test}
use Rattle.plan.specs.Mapping.{row, gone, fate, mark, new_numbers, mapped, old_verdict, OldDone}
use Rattle.plan.specs.Told.{failed, answer_told, judgement_told, verdict_told}
use Rattle.judge_record.specs.Way.{behind}
use Rattle.judge_record.proofs.Ways.{Turn, nothing, renames, here, rows_few, way_few, way_inside}
use Rattle.along.specs.Met.{met}
use Rattle.along.specs.Rising.{rising}
use Rattle.judge.proofs.Told.{failed-fails}
use Rattle.along.proofs.Told.{list-refused, test_refused}
use Rattle.along.proofs.Laying.{laid, laid-append, laid-length, laid_front, rising-length, part-length, counted, filled}
use Rattle.along.proofs.Reaching.{Reached, passes, way, turned, reached-more, here-row, here-gone, last_row}

-- ---- the numbers of some rows
module _ (os : List Origin) where
  numbers-length : (n r : ℕ) → length (new_numbers os n r) ≡ n
  numbers-length zero r = refl
  numbers-length (suc n) r = ap suc (numbers-length n (suc r))

  numbers_join : (m k q : ℕ) → new_numbers os (m + k) q ≡ new_numbers os m q ++ new_numbers os k (q + m)
  numbers_join zero k q =
      let e : 0 + k ≡ k = omega arith in
      let w : q + 0 ≡ q = omega arith in
      rw (e, w)
  numbers_join (suc m) k q =
      let e : suc m + k ≡ suc (m + k) = omega arith in
      let w : q + suc m ≡ suc q + m = omega arith in
      rw (e, w) (rw (numbers_join m k (suc q)))

  -- rows that go on, and rows that are gone
  numbers_rise : (m q o : ℕ) → ((x : ℕ) → q ≤ x → x < q + m → fate os 0 x ≡ row (o + (x - q)))
      → new_numbers os m q ≡ rising m o
  numbers_rise zero q o f = refl
  numbers_rise (suc m) q o f =
      let e : o + (q - q) ≡ o = omega arith in
      rw (f q (omega arith) (omega arith), e)
      (ap (λ (ns : List ℕ). o ∷ ns)
      (numbers_rise m (suc q) (suc o)
      (λ x l h. f x (omega arith) (omega arith) ∙ ap row (omega arith))))

  numbers-gone : (m q : ℕ) → ((x : ℕ) → q ≤ x → x < q + m → fate os 0 x ≡ gone)
      → new_numbers os m q ≡ replicate m mark
  numbers-gone zero q f = refl
  numbers-gone (suc m) q f =
      rw (f q (omega arith) (omega arith))
      (ap (λ (ns : List ℕ). mark ∷ ns) (numbers-gone m (suc q) (λ x l h. f x (omega arith) (omega arith))))

  -- three pieces, laid one after the other
  laid_pieces : (q p g n o : ℕ) (u : List ℕ) → q ≤ p → p ≤ g → g ≤ n
      → new_numbers os (p - q) q ≡ rising (p - q) o → new_numbers os (g - p) p ≡ replicate (g - p) mark
      → laid (new_numbers os (n - q) q) u q
      ≡ laid (new_numbers os (n - g) g) (laid (replicate (g - p) mark) (laid (rising (p - q) o) u q) p) g
  laid_pieces q p g n o u a b c e f =
      let split : n - q ≡ (p - q) + ((g - p) + (n - g)) = omega arith in
      let at_p : q + (p - q) ≡ p = omega arith in
      let at_g : p + (g - p) ≡ g = omega arith in
      rw (split, numbers_join (p - q) ((g - p) + (n - g)) q, at_p, numbers_join (g - p) (n - g) p, at_g, e, f)
      (laid-append (rising (p - q) o) (replicate (g - p) mark ++ new_numbers os (n - g) g) u q
      ∙ rw (rising-length (p - q) o, at_p)
      (laid-append (replicate (g - p) mark) (new_numbers os (n - g) g) (laid (rising (p - q) o) u q) p
      ∙ rw (length-replicate (g - p) mark, at_g)))

module _ (t i : Table) (l : List Record) (u : List ℕ) where
  abbrev n : ℕ
  n = length t.size

  abbrev os : List Origin
  os = origins (result t i l)

  -- the new numbers of the old rows from q on
  abbrev numbers_from : ℕ → List ℕ
  numbers_from q = new_numbers os (n - q) q

  -- the column has room, and is v now: with the numbers of the rows to come laid over it, it is what was asked
  pub record Going (s : Stand) (v : List ℕ) (rs : List Record) : Type 0 where
    pub reached : Reached t i l s rs
    pub room : n ≤ length u
    pub long : length v ≡ length u
    pub still : laid (numbers_from s.row.0) v s.row.0 ≡ laid (numbers_from 0) u 0

  -- ---- the tests
  refused_so : (a : Result ℕ Refusal) (e : Refusal) → IsErrAnd a (λ f. f ≡ e) → old_verdict true t i l u ≡ failed e
      → OldDone true t i l u (answer_told a) u
  refused_so a e k h =
      let p = err_from_is_err_and a k in
      let x = failed-fails e in
      record { answered = rw (p.1, p.2, h, x.is); column = rw (h, x.is) }

  pub list_refused : (a : Result ℕ Refusal) (e : Refusal) → IsErrAnd a (λ f. f ≡ e)
      → judgement_told (Err e) ≡ published_of (even t && even i) t i l → OldDone true t i l u (answer_told a) u
  unfolding mapped
  list_refused a e k h = refused_so a e k (list-refused _ _ (leb n (length u)) 10 0 n e h)

  module _ (m : ℕ) (h : judgement_told (Ok m) ≡ published_of (even t && even i) t i l) where
    pub room_refused : (a : Result ℕ Refusal) (e : Refusal) → IsErrAnd a (λ f. f ≡ e)
        → verdict_told (Err e) ≡ test (leb n (length u)) 10 0 n → OldDone true t i l u (answer_told a) u
    unfolding mapped
    room_refused a e k f = refused_so a e k (test_refused _ _ _ 10 0 n m e h f)

  written : judged (even t && even i) t i l ≡ Passed → n ≤ length u → (w : List ℕ) → w ≡ laid (numbers_from 0) u 0
      → OldDone true t i l u (accepted n) w
  unfolding mapped
  written pass f w o =
      let all : n - 0 ≡ n = omega arith in
      let room = le-leb n (length u) f in
      let front = rw all at (o ∙ laid_front (numbers_from 0) u (omega (arith, numbers-length os (n - 0) 0))) in
      record { answered = rw (pass, room); column = front ∙ rw (pass, room) }

  -- ---- one record
  -- at a record where old rows stay or go, those that stay and those that go are rows of the column
  pub record Passing (s : Stand) (v : List ℕ) (rs : List Record) (at : ℕ) (next : Stand) : Type 0 where
    pub ahead : s.row.0 ≤ at
    pub on : at ≤ next.row.0
    pub inside : next.row.0 ≤ length v
    pub behind : Going next
        (laid (replicate (next.row.0 - at) mark) (laid (rising (at - s.row.0) s.out.0) v s.row.0) at) rs

  abbrev Step : Stand → List ℕ → List Record → Meeting → Type 0
  Step s v rs Vain = Going s v rs
  Step s v rs (Renamed next) = Going next v rs
  Step s v rs (Here at k next) = Passing s v rs at.0 next

  module _ (s : Stand) (v : List ℕ) (r : Record) (rs : List Record) (h : Going s v (r ∷ rs)) where
    abbrev place : ℕ
    place = length h.reached.done

    told : {m : Meeting} → Turn t i l (passes t i l h.reached.passed) s place r rs m → Reached t i l (behind s m) rs
        → Step s v rs m
    told (nothing w e) q = record { reached = q; room = h.room; long = h.long; still = h.still }
    told (renames s' w a b e) q = record { reached = q; room = h.room; long = h.long; still = rw a h.still }
    told (here s' at k w a b c e) q =
        let p = passes t i l h.reached.passed in
        let o = way t i l s (r ∷ rs) h.reached in
        let numbers : List ℕ = rising (at - s.row.0) s.out.0 in
        let inside = way_inside t i l p s' (suc place) rs w in
        record {
          ahead = a;
          on = b;
          inside = omega (arith, inside, h.room, h.long);
          behind = record {
            reached = q;
            room = h.room;
            long = laid-length (replicate (s'.row.0 - at) mark) (laid numbers v s.row.0) at
                ∙ (laid-length numbers v s.row.0 ∙ h.long);
            still = sym
                (laid_pieces os s.row.0 at s'.row.0 n s.out.0 v a b inside
                (numbers_rise os (at - s.row.0) s.row.0 s.out.0
                (λ x y z. here-row t i l p s s' place r rs at k o w a b c e x y (omega arith)))
                (numbers-gone os (s'.row.0 - at) at
                (λ x y z. here-gone t i l p s s' place r rs at k o w a b c e x y (omega arith))))
                ∙ h.still;
          };
        }

    stepped : Step s v rs (met t.size i.size s r)
    stepped = told (turned t i l s r rs h.reached) (reached-more t i l s r rs h.reached)

  -- record k is next
  pub step : {s : Stand} {v : List ℕ} (k : ℕ) {r : Record} {m : Meeting} → Going s v (drop k l)
      → drop k l ≡ r ∷ drop (suc k) l → m ≡ met t.size i.size s r → Step s v (drop (k + 1) l) m
  step {s} {v} k {r} h e f =
      let on : k + 1 ≡ suc k = omega arith in
      rw (f, on) (stepped s v r (drop (suc k) l) (rw e at h))

  -- what is written at it
  module _ {s next : Stand} {v : List ℕ} {rs : List Record} {at : ℕ} (h : Passing s v rs at next) {a : List ℕ}
      (e : a ≡ rising (length (take (at - s.row.0) (drop s.row.0 v))) s.out.0) where
    abbrev counts : List ℕ
    counts = put_mid s.row.0 (at - s.row.0) v a

    numbers : counts ≡ laid (rising (at - s.row.0) s.out.0) v s.row.0
    numbers = counted v s.row.0 at h.ahead (omega (arith, h.on, h.inside)) s.out.0 e

    gone-inside : next.row.0 ≤ length counts
    gone-inside = omega (arith, h.inside, ap length numbers, laid-length (rising (at - s.row.0) s.out.0) v s.row.0)

    pub went_on : {b : List ℕ} → b ≡ replicate (length (take (next.row.0 - at) (drop at counts))) mark
        → Going next (put_mid at (next.row.0 - at) counts b) rs
    went_on f =
        let g = filled counts at next.row.0 h.on gone-inside mark f
        ∙ ap (λ (ns : List ℕ). laid (replicate (next.row.0 - at) mark) ns at) numbers in
        subst (λ (ns : List ℕ). Going next ns rs) (sym g) h.behind

  -- ---- the end
  pub record Last (s : Stand) (v : List ℕ) : Type 0 where
    pub ahead : s.row.0 ≤ n
    pub inside : n ≤ length v
    pub few : s.out.0 + length (take (n - s.row.0) (drop s.row.0 v)) ≤ 4294967296
    pub done : {a : List ℕ} → a ≡ rising (length (take (n - s.row.0) (drop s.row.0 v))) s.out.0
        → OldDone true t i l u (accepted n) (put_mid s.row.0 (n - s.row.0) v a)

  pub last : {s : Stand} {v : List ℕ} (k : ℕ) → Going s v (drop k l) → length l ≤ k → Last s v
  last {s} {v} k g m =
      let h : Going s v [] = rw drop_all at g in
      let p = passes t i l h.reached.passed in
      let j : ℕ = length h.reached.done in
      let z = way t i l s [] h.reached in
      let inside = way_inside t i l p s j [] z in
      let numbers = numbers_rise os (n - s.row.0) s.row.0 s.out.0
      (λ x y c. last_row t i l p s j z x y (omega arith)) in
      record {
        ahead = inside;
        inside = omega (arith, h.long, h.room);
        few = omega (
          arith,
          part-length v s.row.0 n inside (omega (arith, h.long, h.room)),
          way_few t i l p s j [] z,
          rows_few t p.table-sound,
        );
        done = λ e. written h.reached.passed h.room _
            (counted v s.row.0 n inside (omega (arith, h.long, h.room)) s.out.0 e
            ∙ (ap (λ (ns : List ℕ). laid ns v s.row.0) (sym numbers) ∙ h.still));
      }
