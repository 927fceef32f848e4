-- Every new row along a list: what the origins to come say, laid over the columns at each record, is the whole of both
-- columns of origins.
-- Assumes nothing.
use Prim.Native.Nat.{ℕ, zero, suc, ◌+◌, ◌-◌, ◌≤◌}
use native.Mathlib.Omega.{arith}
use mathlib.Core.Path.{◌≡◌, refl, sym, ap, ◌∙◌, subst}
use mathlib.Core.Bool.{true, ◌&&◌}
use mathlib.Core.List.{List, [], ◌∷◌, ◌++◌, map}
use lib.Dec.{eqb, leb}
use lib.ListN.{length, take, drop, replicate, length-replicate, length-map}
use borrow.Author.Tests.{le-leb, eq-eqb, ne_eqb}
use borrow.Rule.Slice.PartMut.{put_mid}
use Rattle.std.proofs.lemmas.List.{drop_all}
use Rattle.std.specs.Prelude.{Result, Ok, Err, IsErrAnd}
use Rattle.std.proofs.lemmas.Result.{err_from_is_err_and}
use Rattle.plan.specs.declared.Record.{Record}
use Rattle.plan.specs.declared.Stand.{Stand}
use Rattle.plan.specs.declared.Meeting.{Meeting}
use Rattle.plan.specs.declared.Meeting.TheVariants.{Vain, Renamed, Here}
use Rattle.plan.specs.Verdict.{Passed, Failed}
use Rattle.plan.specs.declared.refusal.Refusal.{Refusal}
use Rattle.plan.specs.Answer.{accepted, refused}
use Rattle.plan.specs.Tree.{count}
use Rattle.plan.specs.Table.{Table, even}
use Rattle.plan.specs.Paint.{Origin, old, new, origins}
use Rattle.plan.specs.Call.{result, judged, published_of, test}
use Rattle.plan.specs.Mapping.{mark, record_of, row_of, mapped, Places, places, new_verdict, NewDone}
use Rattle.plan.specs.Told.{failed, answer_told, judgement_told, verdict_told}
use Rattle.plan.proofs.Mapping.{rows_of, length-origins}
use Rattle.plan.proofs.Following.{spliced}
use Rattle.judge_record.specs.Way.{behind}
use Rattle.judge_record.proofs.Ways.{ahead, Way, Turn, nothing, renames, here, rows_few, way_inside, last-ahead, all_rows}
use Rattle.along.specs.Met.{met}
use Rattle.along.specs.Rising.{rising}
use Rattle.judge.proofs.Told.{failed-fails}
use Rattle.along.proofs.Told.{list-refused, judged_told, test_refused}
use Rattle.along.proofs.Laying.{laid, laid-append, laid-length, laid_front, rising-length, part-length, counted, filled}
use Rattle.along.proofs.Reaching.{Reached, passes, way, turned, reached-more, next, place_is}

-- ---- rows of one paint, as numbers
map-append : (f : Origin → ℕ) (xs ys : List Origin) → map f (xs ++ ys) ≡ map f xs ++ map f ys
map-append f [] ys = refl
map-append f (x ∷ xs) ys = ap (λ (ns : List ℕ). f x ∷ ns) (map-append f xs ys)

records-same : (o : ℕ → Origin) (k : ℕ) → ((i : ℕ) → record_of (o i) ≡ k) → (i m : ℕ)
    → map record_of (rows_of o i m) ≡ replicate m k
records-same o k e i zero = refl
records-same o k e i (suc m) = rw (e i) (ap (λ (ns : List ℕ). k ∷ ns) (records-same o k e (suc i) m))

rows_rise : (o : ℕ → Origin) → ((i : ℕ) → row_of (o i) ≡ i) → (i m : ℕ) → map row_of (rows_of o i m) ≡ rising m i
rows_rise o e i zero = refl
rows_rise o e i (suc m) = rw (e i) (ap (λ (ns : List ℕ). i ∷ ns) (rows_rise o e (suc i) m))

-- two pieces and the rest, laid one after the other, where the first ends at b and the second at c
laid_both : (xs ys zs u : List ℕ) (a b c : ℕ) → b ≡ a + length xs → c ≡ b + length ys
    → laid (xs ++ (ys ++ zs)) u a ≡ laid zs (laid ys (laid xs u a) b) c
laid_both xs ys zs u a b c e f =
    laid-append xs (ys ++ zs) u a
    ∙ rw (← e) (laid-append ys zs (laid xs u a) b ∙ ap (laid zs (laid ys (laid xs u a) b)) (sym f))

-- one column of what is still to come: f reads an origin, and it reads old rows from q on as A, the run as B
module _ (f : Origin → ℕ) (q at j n : ℕ) (os : List Origin) (A B : List ℕ)
    (olds : map f (rows_of old q (at - q)) ≡ A) (runs : map f (rows_of (new j) 0 n) ≡ B) where
  read : map f (spliced q at j n os) ≡ A ++ (B ++ map f os)
  read =
      map-append f (rows_of old q (at - q)) (rows_of (new j) 0 n ++ os)
      ∙ rw (olds, map-append f (rows_of (new j) 0 n) os, runs)

  laid_splice : (u : List ℕ) (o first end : ℕ) → first ≡ o + length A → end ≡ first + length B
      → laid (map f (spliced q at j n os)) u o ≡ laid (map f os) (laid B (laid A u o) first) end
  laid_splice u o first end e g =
      ap (λ (ns : List ℕ). laid ns u o) read ∙ laid_both A B (map f os) u o first end e g

module _ (t i : Table) (l : List Record) (u : Places) where
  abbrev n : ℕ
  n = count (result t i l)

  abbrev os : List Origin
  os = origins (result t i l)

  -- the column v, with what f reads of the origins from row o on laid over it
  abbrev laid_from : (Origin → ℕ) → ℕ → List ℕ → List ℕ
  laid_from f o v = laid (map f (drop o os)) v o

  -- the columns have room, and are v now: with the origins of the rows to come laid over them, they are what was asked
  pub record Going (s : Stand) (v : Places) (rs : List Record) : Type 0 where
    pub reached : Reached t i l s rs
    pub even : length u.rows ≡ length u.records
    pub room : n ≤ length u.records
    pub record-long : length v.records ≡ length u.records
    pub row-long : length v.rows ≡ length u.rows
    pub records : laid_from record_of s.out.0 v.records ≡ laid_from record_of 0 u.records
    pub rows : laid_from row_of s.out.0 v.rows ≡ laid_from row_of 0 u.rows

  -- ---- the tests
  refused_so : (a : Result ℕ Refusal) (e : Refusal) → IsErrAnd a (λ f. f ≡ e) → new_verdict true t i l u ≡ failed e
      → NewDone true t i l u (answer_told a) u
  refused_so a e k h =
      let p = err_from_is_err_and a k in
      let x = failed-fails e in
      record { answered = rw (p.1, p.2, h, x.is); records = rw (h, x.is); rows = rw (h, x.is) }

  -- the two columns differ in length
  pub odd : (length u.rows ≡ length u.records → ⊥) → NewDone true t i l u (refused 1 0 0) u
  unfolding mapped judged
  odd f =
      let v : new_verdict true t i l u ≡ Failed 1 0 0 = rw (ne_eqb (length u.rows) (length u.records) f) in
      record { answered = rw v; records = rw v; rows = rw v }

  module _ (q : length u.rows ≡ length u.records) where
    level : eqb (length u.rows) (length u.records) ≡ true
    level = eq-eqb (length u.rows) (length u.records) q

    pub list_refused : (a : Result ℕ Refusal) (e : Refusal) → IsErrAnd a (λ f. f ≡ e)
        → judgement_told (Err e) ≡ published_of (even t && even i) t i l → NewDone true t i l u (answer_told a) u
    unfolding mapped
    list_refused a e k h = refused_so a e k (rw level (list-refused _ _ (leb n (length u.records)) 10 0 n e h))

    module _ (m : ℕ) (h : judgement_told (Ok m) ≡ published_of (even t && even i) t i l) where
      needed : m ≡ n
      needed = (judged_told _ _ true 10 0 m m h).1

      pub room_refused : (a : Result ℕ Refusal) (e : Refusal) → IsErrAnd a (λ f. f ≡ e)
          → verdict_told (Err e) ≡ test (leb m (length u.records)) 10 0 m → NewDone true t i l u (answer_told a) u
      unfolding mapped
      room_refused a e k f =
          refused_so a e k (rw level (test_refused _ _ (leb n (length u.records)) 10 0 n m e h (rw needed at f)))

    written : judged (even t && even i) t i l ≡ Passed → n ≤ length u.records → (w : Places)
        → w.records ≡ laid_from record_of 0 u.records → w.rows ≡ laid_from row_of 0 u.rows
        → NewDone true t i l u (accepted n) w
    unfolding mapped
    written pass f w g h =
        let room = le-leb n (length u.records) f in
        let long = length-origins (result t i l) in
        let rs = g ∙ laid_front (map record_of os) u.records (omega (arith, long, length-map os record_of)) in
        let ws = h ∙ laid_front (map row_of os) u.rows (omega (arith, long, length-map os row_of)) in
        record {
          answered = rw (level, pass, room);
          records = rs ∙ rw (level, pass, room);
          rows = ws ∙ rw (level, pass, room);
        }

  -- ---- one record
  -- at a record where old rows stay or go, the rows that stay and those of its run are rows of the columns
  pub record Passing (s : Stand) (k : ℕ) (v : Places) (rs : List Record) (m : ℕ) (next : Stand) : Type 0 where
    pub run : m ≤ next.out.0
    pub ahead : s.out.0 ≤ next.out.0 - m
    pub record-inside : next.out.0 ≤ length v.records
    pub row-inside : next.out.0 ≤ length v.rows
    pub behind : let first = next.out.0 - m in
        Going next
        (places
        (laid (replicate (next.out.0 - first) k) (laid (replicate (first - s.out.0) mark) v.records s.out.0) first)
        (laid (rising (next.out.0 - first) 0) (laid (rising (first - s.out.0) s.row.0) v.rows s.out.0) first)) rs

  abbrev Step : Stand → ℕ → Places → List Record → Meeting → Type 0
  Step s k v rs Vain = Going s v rs
  Step s k v rs (Renamed next) = Going next v rs
  Step s k v rs (Here at m next) = Passing s k v rs m next

  module _ (s : Stand) (v : Places) (r : Record) (rs : List Record) (h : Going s v (r ∷ rs)) where
    abbrev place : ℕ
    place = length h.reached.done

    -- what is laid from a row on is what the origins to come say
    to_come : (q : Stand) (j : ℕ) (ps : List Record) → Way t i l (passes t i l h.reached.passed) q j ps
        → (f : Origin → ℕ) (c : List ℕ)
        → laid_from f q.out.0 c ≡ laid (map f (ahead t i l (passes t i l h.reached.passed) q j ps)) c q.out.0
    to_come q j ps w f c = ap (λ (os : List Origin). laid (map f os) c q.out.0) (sym w.to_come)

    told : {d : Meeting} → Turn t i l (passes t i l h.reached.passed) s place r rs d
        → Reached t i l (behind s d) rs → Step s place v rs d
    told (nothing w e) q =
        record {
          reached = q;
          even = h.even;
          room = h.room;
          record-long = h.record-long;
          row-long = h.row-long;
          records = h.records;
          rows = h.rows;
        }
    told (renames s' w a b e) q =
        record {
          reached = q;
          even = h.even;
          room = h.room;
          record-long = h.record-long;
          row-long = h.row-long;
          records = rw b h.records;
          rows = rw b h.rows;
        }
    told (here s' at m w a b d e) q =
        let p = passes t i l h.reached.passed in
        let o = way t i l s (r ∷ rs) h.reached in
        let first : ℕ = s'.out.0 - m in
        let start : ℕ = s.out.0 in
        let front : first - start ≡ at - s.row.0 = omega (arith, d) in
        let back : s'.out.0 - first ≡ m = omega (arith, d) in
        let all = w.all in
        record {
          run = omega (arith, d);
          ahead = omega (arith, d);
          record-inside = omega (arith, all, h.room, h.record-long);
          row-inside = omega (arith, all, h.room, h.even, h.row-long);
          behind = record {
            reached = q;
            even = h.even;
            room = h.room;
            record-long = laid-length (replicate (s'.out.0 - first) place)
                (laid (replicate (first - start) mark) v.records start) first
                ∙ (laid-length (replicate (first - start) mark) v.records start ∙ h.record-long);
            row-long = laid-length (rising (s'.out.0 - first) 0)
                (laid (rising (first - start) s.row.0) v.rows start) first
                ∙ (laid-length (rising (first - start) s.row.0) v.rows start ∙ h.row-long);
            records = to_come s' (suc place) rs w record_of _
                ∙ (sym (laid_splice record_of s.row.0 at place m _ (replicate (first - start) mark)
                (replicate (s'.out.0 - first) place)
                (rw front (records-same old mark (λ y. refl) s.row.0 (at - s.row.0)))
                (rw back (records-same (new place) place (λ y. refl) 0 m)) v.records start first
                s'.out.0
                (omega (arith, d, length-replicate (first - start) mark))
                (omega (arith, d, length-replicate (s'.out.0 - first) place)))
                ∙ (ap (λ (os : List Origin). laid (map record_of os) v.records start) (sym e)
                ∙ (sym (to_come s place (r ∷ rs) o record_of v.records) ∙ h.records)));
            rows = to_come s' (suc place) rs w row_of _
                ∙ (sym (laid_splice row_of s.row.0 at place m _ (rising (first - start) s.row.0)
                (rising (s'.out.0 - first) 0)
                (rw front (rows_rise old (λ y. refl) s.row.0 (at - s.row.0)))
                (rw back (rows_rise (new place) (λ y. refl) 0 m)) v.rows start first s'.out.0
                (omega (arith, d, rising-length (first - start) s.row.0))
                (omega (arith, d, rising-length (s'.out.0 - first) 0)))
                ∙ (ap (λ (os : List Origin). laid (map row_of os) v.rows start) (sym e)
                ∙ (sym (to_come s place (r ∷ rs) o row_of v.rows) ∙ h.rows)));
          };
        }

    stepped : Step s place v rs (met t.size i.size s r)
    stepped = told (turned t i l s r rs h.reached) (reached-more t i l s r rs h.reached)

  -- record k is next
  pub step : {s : Stand} (k : ℕ) {v : Places} {r : Record} {m : Meeting} → Going s v (drop k l)
      → drop k l ≡ r ∷ drop (suc k) l → m ≡ met t.size i.size s r → Step s k v (drop (k + 1) l) m
  step {s} k {v} {r} h e f =
      let on : suc k ≡ k + 1 = omega arith in
      let g : Going s v (r ∷ drop (suc k) l) =
      record {
        reached = next t i l s k r h.reached e;
        even = h.even;
        room = h.room;
        record-long = h.record-long;
        row-long = h.row-long;
        records = h.records;
        rows = h.rows;
      } in
      rw f (subst (λ (j : ℕ). Step s k v (drop j l) (met t.size i.size s r)) on
      (rw (place_is t i l s k r h.reached e) at (stepped s v r (drop (suc k) l) g)))

  -- what is written at it
  module _ {s next : Stand} {k : ℕ} {v : Places} {rs : List Record} {m : ℕ} (h : Passing s k v rs m next) where
    abbrev first : ℕ
    first = next.out.0 - m

    module _ {a : List ℕ} (e : a ≡ replicate (length (take (first - s.out.0) (drop s.out.0 v.records))) mark) where
      abbrev olds : List ℕ
      olds = put_mid s.out.0 (first - s.out.0) v.records a

      old-records : olds ≡ laid (replicate (first - s.out.0) mark) v.records s.out.0
      old-records = filled v.records s.out.0 first h.ahead (omega (arith, h.record-inside)) mark e

      record-room : next.out.0 ≤ length olds
      record-room =
          omega (
            arith,
            h.record-inside,
            ap length old-records,
            laid-length (replicate (first - s.out.0) mark) v.records s.out.0,
          )

      run-records : {b : List ℕ} → b ≡ replicate (length (take (next.out.0 - first) (drop first olds))) k
          → put_mid first (next.out.0 - first) olds b
          ≡ laid (replicate (next.out.0 - first) k) (laid (replicate (first - s.out.0) mark) v.records s.out.0) first
      run-records f =
          filled olds first next.out.0 (omega arith) record-room k f
          ∙ ap (λ (ns : List ℕ). laid (replicate (next.out.0 - first) k) ns first) old-records

    module _ {a : List ℕ} (e : a ≡ rising (length (take (first - s.out.0) (drop s.out.0 v.rows))) s.row.0) where
      abbrev counts : List ℕ
      counts = put_mid s.out.0 (first - s.out.0) v.rows a

      old-rows : counts ≡ laid (rising (first - s.out.0) s.row.0) v.rows s.out.0
      old-rows = counted v.rows s.out.0 first h.ahead (omega (arith, h.row-inside)) s.row.0 e

      row_room : next.out.0 ≤ length counts
      row_room =
          omega (
            arith,
            h.row-inside,
            ap length old-rows,
            laid-length (rising (first - s.out.0) s.row.0) v.rows s.out.0,
          )

      run-rows : {b : List ℕ} → b ≡ rising (length (take (next.out.0 - first) (drop first counts))) 0
          → put_mid first (next.out.0 - first) counts b
          ≡ laid (rising (next.out.0 - first) 0) (laid (rising (first - s.out.0) s.row.0) v.rows s.out.0) first
      run-rows f =
          counted counts first next.out.0 (omega arith) row_room 0 f
          ∙ ap (λ (ns : List ℕ). laid (rising (next.out.0 - first) 0) ns first) old-rows

    pub went_on : {a b c d : List ℕ}
        → (e : a ≡ replicate (length (take (first - s.out.0) (drop s.out.0 v.records))) mark)
        → b ≡ replicate (length (take (next.out.0 - first) (drop first (olds e)))) k
        → (f : c ≡ rising (length (take (first - s.out.0) (drop s.out.0 v.rows))) s.row.0)
        → d ≡ rising (length (take (next.out.0 - first) (drop first (counts f)))) 0
        → Going next
        (places (put_mid first (next.out.0 - first) (olds e) b) (put_mid first (next.out.0 - first) (counts f) d)) rs
    went_on e x f y =
        subst (λ (w : Places). Going next w rs) (λ j. places (sym (run-records e x) j) (sym (run-rows f y) j))
        h.behind

  -- ---- the end
  module _ {s : Stand} {k : ℕ} {v : Places} (g : Going s v (drop k l)) (q : length l ≤ k) where
    abbrev end : ℕ
    end = s.out.0 + (length t.size - s.row.0)

    pub record Last : Type 0 where
      pub inside : s.row.0 ≤ length t.size
      pub record-inside : end ≤ length v.records
      pub row-inside : end ≤ length v.rows
      pub few : s.row.0 + length (take (end - s.out.0) (drop s.out.0 v.rows)) ≤ 4294967296
      pub done : {a b : List ℕ} → a ≡ replicate (length (take (end - s.out.0) (drop s.out.0 v.records))) mark
          → b ≡ rising (length (take (end - s.out.0) (drop s.out.0 v.rows))) s.row.0
          → NewDone true t i l u (accepted end)
          (places (put_mid s.out.0 (end - s.out.0) v.records a) (put_mid s.out.0 (end - s.out.0) v.rows b))

    h : Going s v []
    h = rw drop_all at g

    -- one column: f reads an origin, and the old rows behind the last record as A
    last-laid : end ≡ n → (f : Origin → ℕ) (c A : List ℕ) → map f (rows_of old s.row.0 (end - s.out.0)) ≡ A
        → laid A c s.out.0 ≡ laid_from f s.out.0 c
    last-laid all f c A e =
        let z = way t i l s [] h.reached in
        let left : length t.size - s.row.0 ≡ end - s.out.0 = omega arith in
        ap (λ (ns : List ℕ). laid ns c s.out.0) (sym e)
        ∙ (ap (λ (y : ℕ). laid (map f (rows_of old s.row.0 y)) c s.out.0) (sym left)
        ∙ ap (λ (os : List Origin). laid (map f os) c s.out.0)
        (sym (last-ahead t i l (passes t i l h.reached.passed) s (length h.reached.done)) ∙ z.to_come))

    pub last : Last
    last =
        let p = passes t i l h.reached.passed in
        let j : ℕ = length h.reached.done in
        let z = way t i l s [] h.reached in
        let within = way_inside t i l p s j [] z in
        let all : end ≡ n = omega (arith, all_rows t i l p s j z) in
        let long : end ≤ length v.records = omega (arith, h.room, h.record-long) in
        let wide : end ≤ length v.rows = omega (arith, h.room, h.even, h.row-long) in
        let few = rows_few t p.table-sound in
        record {
          inside = within;
          record-inside = long;
          row-inside = wide;
          few = omega (arith, part-length v.rows s.out.0 end (omega arith) wide, few, within);
          done = λ {a} {b} e f.
              let w : Places = places (put_mid s.out.0 (end - s.out.0) v.records a)
              (put_mid s.out.0 (end - s.out.0) v.rows b) in
              subst (λ (m : ℕ). NewDone true t i l u (accepted m) w) (sym all)
              (written h.even h.reached.passed h.room w
              (filled v.records s.out.0 end (omega arith) long mark e
              ∙ (last-laid all record_of v.records _ (records-same old mark (λ y. refl) s.row.0 (end - s.out.0))
              ∙ h.records))
              (counted v.rows s.out.0 end (omega arith) wide s.row.0 f
              ∙ (last-laid all row_of v.rows _ (rows_rise old (λ y. refl) s.row.0 (end - s.out.0)) ∙ h.rows)));
        }
