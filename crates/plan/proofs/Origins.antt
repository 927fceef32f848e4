-- Demand 3, the paint: the origins after an accepted list are the merge of the old rows and the kept runs, and the
-- paper's formula tells what became of each old row.
-- Assumes nothing.
use Prim.Native.Nat.{ℕ, zero, suc, ◌+◌, ◌-◌, ◌≤◌, ◌<◌}
use native.Mathlib.Omega.{arith}
use mathlib.Core.Path.{◌≡◌, refl, ap, ◌∙◌}
use mathlib.Core.List.{List, [], ◌∷◌, ◌++◌, map, map-append}
use lib.Dec.{T, eqb, eqb→eq}
use lib.ListN.{length, take, drop}
use Rattle.plan.specs.declared.Record.{Record}
use Rattle.std.specs.Prelude.{None}
use Rattle.plan.specs.Tree.{Forest, count, labels}
use Rattle.plan.specs.Table.{Table, even, run}
use Rattle.plan.specs.Change.{delete, rename, replace, Change, insert, act, location}
use Rattle.plan.specs.Paint.{Origin, old, new, Painted, painted, plan, origins}
use Rattle.plan.specs.Records.{is_delete, is_insert, is_rename, change, changes, located}
use Rattle.plan.specs.Call.{result}
pub use Rattle.plan.specs.Call.{kept_of}
use Rattle.plan.specs.Mapping.{Fate, fate, Formula, removed, moved}
use Rattle.plan.proofs.Kit.{T_and, cond_elim, All}
use Rattle.plan.proofs.Readback.{labels-spelled, count-spelled}
use Rattle.plan.proofs.Cut.{Fit}
use Rattle.plan.proofs.Fits.{InOrder, changes_read, fits}
use Rattle.plan.proofs.Kept.{all_kept}
use Rattle.plan.proofs.Merge.{part, brings, onward, merged, Chain, chain_most, not_back, kept_chain, meaning_merged}
use Rattle.plan.proofs.Mapping.{rows_of, AllNew, arrives, track, Honest, Told, went, stayed, told}

-- ---- parts of a painted column
module _ {X Y : Type 0} (f : X → Y) where
  map-take : (n : ℕ) (l : List X) → map f (take n l) ≡ take n (map f l)
  map-take zero l = refl
  map-take (suc n) [] = refl
  map-take (suc n) (x ∷ l) = ap (λ (ys : List Y). f x ∷ ys) (map-take n l)

  map-drop : (n : ℕ) (l : List X) → map f (drop n l) ≡ drop n (map f l)
  map-drop zero l = refl
  map-drop (suc n) [] = refl
  map-drop (suc n) (x ∷ l) = map-drop n l

module _ (o : ℕ → Origin) where
  painted-rows : (i : ℕ) (vs : List ℕ) → map (λ (a : Painted). a.origin) (painted o i vs) ≡ rows_of o i (length vs)
  unfolding painted
  painted-rows i [] = refl
  painted-rows i (v ∷ vs) = ap (λ (os : List Origin). o i ∷ os) (painted-rows (suc i) vs)

  pub take-rows : (m i n : ℕ) → m ≤ n → take m (rows_of o i n) ≡ rows_of o i m
  take-rows zero i n h = refl
  take-rows (suc m) i zero h = absurd (omega arith)
  take-rows (suc m) i (suc n) h = ap (λ (os : List Origin). o i ∷ os) (take-rows m (suc i) n (omega arith))

  drop-rows : (q i n : ℕ) → drop q (rows_of o i n) ≡ rows_of o (i + q) (n - q)
  drop-rows zero i n =
      let e : i + 0 ≡ i = omega arith in
      let w : n - 0 ≡ n = omega arith in
      rw (e, w)
  drop-rows (suc q) i zero = let w : 0 - suc q ≡ 0 = omega arith in rw w
  drop-rows (suc q) i (suc n) =
      let e : i + suc q ≡ suc i + q = omega arith in
      let w : suc n - suc q ≡ n - q = omega arith in
      rw (e, w) (drop-rows q (suc i) n)

-- the origins of the tree that a table spells
pub plan-origins : (o : ℕ → Origin) (t : Table)
    → origins (plan o t) ≡ take (length t.size) (rows_of o 0 (length t.value))
unfolding plan
plan-origins o t =
    ap (map (λ (a : Painted). a.origin)) (labels-spelled t.size (painted o 0 t.value))
    ∙ (map-take (λ (a : Painted). a.origin) (length t.size) (painted o 0 t.value)
    ∙ ap (take (length t.size)) (painted-rows o 0 t.value))

old-origins : (t : Table) → T (even t) → origins (plan old t) ≡ rows_of old 0 (length t.size)
unfolding even
old-origins t h =
    let w = T_and (eqb (length t.dist) (length t.size)) (eqb (length t.value) (length t.size)) h in
    let e = eqb→eq (length t.value) (length t.size) w.1 in
    plan-origins old t ∙ take-rows old (length t.size) 0 (length t.value) (omega arith)

length-painted : (o : ℕ → Origin) (i : ℕ) (vs : List ℕ) → length (painted o i vs) ≡ length vs
unfolding painted
length-painted o i [] = refl
length-painted o i (v ∷ vs) = ap suc (length-painted o (suc i) vs)

pub count-plan : (o : ℕ → Origin) (t : Table) → T (even t) → count (plan o t) ≡ length t.size
unfolding plan even
count-plan o t h =
    let w = T_and (eqb (length t.dist) (length t.size)) (eqb (length t.value) (length t.size)) h in
    let e = eqb→eq (length t.value) (length t.size) w.1 in
    count-spelled t.size (painted o 0 t.value) (omega (arith, e, length-painted o 0 t.value))

-- ---- what a list brings is honest
new-rows : (k m i n : ℕ) → AllNew (take m (rows_of (new k) i n))
new-rows k zero i n = tt
new-rows k (suc m) i zero = tt
new-rows k (suc m) i (suc n) = new-rows k m (suc i) n

new-origins : (k : ℕ) (t : Table) → AllNew (origins (plan (new k) t))
new-origins k t = rw (plan-origins (new k) t) (new-rows k (length t.size) 0 (length t.value))

change_honest : (t : Forest Painted) (i : Table) (k : ℕ) (r : Record) → Honest t (change i k r)
unfolding change
change_honest t i k r =
    cond_elim (Honest t) (is_delete r) _ _ (λ e. tt)
    (λ e. cond_elim (Honest t) (is_insert r) _ _ (λ w. new-origins k (run i r.from))
    (λ w. cond_elim (Honest t) (is_rename r) _ _ (λ z a. refl) (λ z. new-origins k (run i r.from))))

pub changes_honest : (t : Forest Painted) (i : Table) (k : ℕ) (rs : List Record) → All (Honest t) (changes i k rs)
unfolding changes
changes_honest t i k [] = tt
changes_honest t i k (r ∷ rs) = (change_honest t i k r, changes_honest t i (suc k) rs)

-- ---- the origins of a merge
abbrev origin_of : Painted → Origin
origin_of a = a.origin

same-origins : (h : Painted → Painted) → ((a : Painted) → (h a).origin ≡ a.origin) → (l : List Painted)
    → map origin_of (map h l) ≡ map origin_of l
same-origins h e [] = refl
same-origins h e (a ∷ l) = rw (e a, same-origins h e l)

module _ (t : Forest Painted) (rows : origins t ≡ rows_of old 0 (count t)) where
  part-origins : (q p : ℕ) → q ≤ p → p ≤ count t → map origin_of (part (labels t) q p) ≡ rows_of old q (p - q)
  part-origins q p h k =
      let e : 0 + q ≡ q = omega arith in
      map-take origin_of (p - q) (drop q (labels t))
      ∙ rw (map-drop origin_of q (labels t), rows, drop-rows old q 0 (count t), e)
      (take-rows old (p - q) q (count t - q) (omega arith))

  brings_arrives : (c : Change Painted) → Honest t c → onward t c ≤ count t → map origin_of (brings t c) ≡ arrives t c
  brings_arrives (insert p q s) h k = refl
  brings_arrives (act p delete) h k = refl
  brings_arrives (act p (rename g)) h k =
      let e : suc p - p ≡ 1 = omega arith in
      same-origins g h (part (labels t) p (suc p)) ∙ (part-origins p (suc p) (omega arith) k ∙ rw e)
  brings_arrives (act p (replace s)) h k = refl

  merged_track : (q n : ℕ) (cs : List (Change Painted)) → Chain t q n cs → All (Honest t) cs → n ≤ count t
      → map origin_of (merged t q n cs) ≡ track t q n cs
  merged_track q n [] v w k = part-origins q n v k
  merged_track q n (c ∷ cs) v w k =
      let on : ℕ = onward t c in
      let m = chain_most t on n cs v.1 in
      rw (
        map-append origin_of (part (labels t) q (location c)) (brings t c ++ merged t on n cs),
        map-append origin_of (brings t c) (merged t on n cs),
        part-origins q (location c) v.0 (omega (arith, not_back t c)),
        brings_arrives c w.0 (omega arith),
        merged_track on n cs v.1 w.1 k,
      )

-- ---- demand 3: every new row tells which row it was
-- the list passes tests 5, 7 and 8 of an even table
pub record Fair (t : Table) (l : List Record) : Type 0 where
  pub even-columns : T (even t)
  pub places : All (λ r. T (located (plan old t) r)) l
  pub order : InOrder None l

module _ (t i : Table) (l : List Record) (w : Fair t l) where
  abbrev K : List (Change Painted)
  K = kept_of t i l

  fit : Fit 0 0 (plan old t) (changes i 0 l)
  fit = fits (plan old t) (changes_read i 0 l) w.places w.order

  pub rows-old : count (plan old t) ≡ length t.size
  rows-old = count-plan old t w.even-columns

  pub kept_follow : Chain (plan old t) 0 (length t.size) K
  kept_follow = rw rows-old at (kept_chain (plan old t) (changes i 0 l) fit)

  pub kept_honest : All (Honest (plan old t)) K
  kept_honest = all_kept (plan old t) (Honest (plan old t)) [] (changes i 0 l) (changes_honest (plan old t) i 0 l)

  pub origins-result : origins (result t i l) ≡ track (plan old t) 0 (length t.size) K
  unfolding result
  origins-result =
      let rows : origins (plan old t) ≡ rows_of old 0 (count (plan old t)) =
      rw rows-old (old-origins t w.even-columns) in
      let n : ℕ = length t.size in
      ap (map origin_of) (meaning_merged (plan old t) (changes i 0 l) fit)
      ∙ rw rows-old (merged_track (plan old t) rows 0 n K kept_follow kept_honest (rw rows-old (omega arith)))

  -- the paper's formula: a row that a kept change removes is gone, and any other becomes r, plus the lengths of kept
  -- runs at locations up to r, less the rows removed at locations below r
  pub new-number : (r : ℕ) → r < length t.size → Told (plan old t) 0 0 r K (fate (origins (result t i l)) 0 r)
  new-number r k =
      rw origins-result (told (plan old t) 0 (length t.size) K 0 r kept_follow kept_honest (omega arith) k)

  pub number_formula : (r : ℕ) → r < length t.size → Formula (plan old t) r K (fate (origins (result t i l)) 0 r)
  number_formula r k = go (fate (origins (result t i l)) 0 r) (new-number r k)
    where
      go : (f : Fate) → Told (plan old t) 0 0 r K f → Formula (plan old t) r K f
      go f (went a b) = rw b (removed a)
      go f (stayed a m b e) = rw b (moved a m (omega (arith, e)))
