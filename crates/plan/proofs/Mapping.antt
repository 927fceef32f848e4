-- The merge of origins, and the fate of an old row in it: by the paper's formula a row that survives has a new number,
-- and the others are gone.
-- Assumes nothing.
use Prim.Native.Nat.{ℕ, zero, suc, ◌+◌, ◌-◌, ◌≤◌, ◌<◌}
use native.Mathlib.Omega.{arith}
use mathlib.Core.Path.{◌≡◌, refl, sym, ap, ◌∙◌}
use mathlib.Core.Bool.{true, false, cond}
use mathlib.Core.Logic.{◌⊎◌, inl, inr}
use mathlib.Core.List.{List, [], ◌∷◌, ◌++◌, append-nil}
use lib.Dec.{leb, ltb}
use lib.ListN.{length, length-map}
use borrow.Author.Tests.{eq-eqb, ne_eqb, le-leb, lt-leb, lt-ltb, le-ltb}
use Rattle.plan.specs.Tree.{Forest, count, labels}
use Rattle.plan.specs.Change.{delete, rename, replace, Change, insert, act, location}
use Rattle.plan.specs.Paint.{Origin, old, new, Painted, origins}
use Rattle.plan.specs.Mapping.{Fate, row, gone, fate, comes, goes, takes, come, left, taken}
use Rattle.plan.proofs.Kit.{and_false, or_true, by_side, All}
use Rattle.plan.proofs.Columns.{length-labels}
use Rattle.plan.proofs.Merge.{onward, Chain, not_back}

-- m rows painted by o, from row i on
abbrev pub rows_of : (ℕ → Origin) → (i m : ℕ) → List Origin
rows_of o i zero = []
rows_of o i (suc m) = o i ∷ rows_of o (suc i) m

pub length-rows : (o : ℕ → Origin) (i m : ℕ) → length (rows_of o i m) ≡ m
length-rows o i zero = refl
length-rows o i (suc m) = ap suc (length-rows o (suc i) m)

pub length-origins : (s : Forest Painted) → length (origins s) ≡ count s
length-origins s = length-map (labels s) (λ a. a.origin) ∙ length-labels s

-- nothing but rows of runs
abbrev pub AllNew : List Origin → Type 0
AllNew [] = Unit {0}
AllNew (old x ∷ os) = ⊥
AllNew (new k i ∷ os) = AllNew os

-- ---- the fate of a row among origins
pub fate-new : (os rest : List Origin) (j r : ℕ) → AllNew os → fate (os ++ rest) j r ≡ fate rest (j + length os) r
unfolding fate
fate-new [] rest j r v = ap (λ (z : ℕ). fate rest z r) (omega arith)
fate-new (old x ∷ os) rest j r v = absurd v
fate-new (new k i ∷ os) rest j r v = fate-new os rest (suc j) r v ∙ ap (λ (z : ℕ). fate rest z r) (omega arith)

-- among old rows of which it is none
pub fate-other : (q m : ℕ) (rest : List Origin) (j r : ℕ) → ((x : ℕ) → q ≤ x → x < q + m → x ≡ r → ⊥)
    → fate (rows_of old q m ++ rest) j r ≡ fate rest (j + m) r
unfolding fate
fate-other q zero rest j r f = ap (λ (z : ℕ). fate rest z r) (omega arith)
fate-other q (suc m) rest j r f =
    rw (ne_eqb q r (f q (omega arith) (omega arith)))
    (fate-other (suc q) m rest (suc j) r (λ x u v. f x (omega arith) (omega arith))
    ∙ ap (λ (z : ℕ). fate rest z r) (omega arith))

-- among them
pub fate_among : (q m : ℕ) (rest : List Origin) (j r : ℕ) → q ≤ r → r < q + m
    → fate (rows_of old q m ++ rest) j r ≡ row (j + (r - q))
unfolding fate
fate_among q zero rest j r h k = absurd (omega arith)
fate_among q (suc m) rest j r h k =
    by_side q r
    (λ l. rw (ne_eqb q r (omega arith))
    (fate_among (suc q) m rest (suc j) r (omega arith) (omega arith) ∙ ap row (omega arith)))
    (λ l. rw (eq-eqb q r (omega arith)) (ap row (omega arith)))

-- ---- the origins of a merge
module _ (t : Forest Painted) where
  abbrev pub arrives : Change Painted → List Origin
  arrives (insert p q s) = origins s
  arrives (act p delete) = []
  arrives (act p (rename h)) = old p ∷ []
  arrives (act p (replace s)) = origins s

  abbrev pub track : (q n : ℕ) → List (Change Painted) → List Origin
  track q n [] = rows_of old q (n - q)
  track q n (c ∷ cs) = rows_of old q (location c - q) ++ (arrives c ++ track (onward t c) n cs)

  -- runs carry the paint of runs, and a rename leaves the paint
  abbrev pub Honest : Change Painted → Type 0
  Honest (insert p q s) = AllNew (origins s)
  Honest (act p delete) = Unit {0}
  Honest (act p (rename h)) = (a : Painted) → (h a).origin ≡ a.origin
  Honest (act p (replace s)) = AllNew (origins s)

  length_arrives : (c : Change Painted) → length (arrives c) + (location c + goes t c) ≡ comes c + onward t c
  length_arrives (insert p q s) = omega (arith, length-origins s)
  length_arrives (act p delete) = omega arith
  length_arrives (act p (rename h)) = omega arith
  length_arrives (act p (replace s)) = omega (arith, length-origins s)

  -- a row that is not the change's own is not among what arrives
  fate_arrives : (c : Change Painted) (rest : List Origin) (j r : ℕ) → Honest c → (r < location c) ⊎ (onward t c ≤ r)
      → fate (arrives c ++ rest) j r ≡ fate rest (j + length (arrives c)) r
  fate_arrives (insert p q s) rest j r v w = fate-new (origins s) rest j r v
  fate_arrives (act p delete) rest j r v w = fate-new [] rest j r tt
  fate_arrives (act p (rename h)) rest j r v (inl w) = fate-other p 1 rest j r (λ x u y e. omega arith)
  fate_arrives (act p (rename h)) rest j r v (inr w) = fate-other p 1 rest j r (λ x u y e. omega arith)
  fate_arrives (act p (replace s)) rest j r v w = fate-new (origins s) rest j r v

  -- ---- the formula
  -- a row that was passed is gone
  pub fate-passed : (q n : ℕ) (cs : List (Change Painted)) (j r : ℕ) → Chain t q n cs → All Honest cs → r < q
      → fate (track q n cs) j r ≡ gone
  unfolding fate
  fate-passed q n [] j r v w h =
      ap (λ (os : List Origin). fate os j r) (sym (append-nil (rows_of old q (n - q))))
      ∙ fate-other q (n - q) [] j r (λ x u y e. omega arith)
  fate-passed q n (c ∷ cs) j r v w h =
      let on : ℕ = onward t c in
      fate-other q (location c - q) (arrives c ++ track on n cs) j r (λ x u y e. omega arith)
      ∙ (fate_arrives c (track on n cs) _ r w.0 (inl (omega (arith, v.0)))
      ∙ fate-passed on n cs _ r v.1 w.1 (omega (arith, v.0, not_back t c)))

  -- what stands further on has no part in it
  come-none : (q n : ℕ) (cs : List (Change Painted)) (r : ℕ) → Chain t q n cs → r < q → come r cs ≡ 0
  come-none q n [] r v h = refl
  come-none q n (c ∷ cs) r v h =
      rw (
        lt-leb (location c) r (omega (arith, v.0)),
        come-none (onward t c) n cs r v.1
            (omega (arith, v.0, not_back t c)),
      )

  left-none : (q n : ℕ) (cs : List (Change Painted)) (r : ℕ) → Chain t q n cs → r ≤ q → left t r cs ≡ 0
  left-none q n [] r v h = refl
  left-none q n (c ∷ cs) r v h =
      rw (
        le-ltb (location c) r (omega (arith, v.0)),
        left-none (onward t c) n cs r v.1
            (omega (arith, v.0, not_back t c)),
      )

  pub taken_none : (q n : ℕ) (cs : List (Change Painted)) (r : ℕ) → Chain t q n cs → r < q → taken t r cs ≡ false
  taken_none q n [] r v h = refl
  taken_none q n (c ∷ cs) r v h =
      rw (
        lt-leb (location c) r (omega (arith, v.0)),
        taken_none (onward t c) n cs r v.1
            (omega (arith, v.0, not_back t c)),
      )

  -- of the rows from q on, row j of the new table being next
  pub data Told (q j r : ℕ) (cs : List (Change Painted)) (f : Fate) : Type 0 where
    went : taken t r cs ≡ true → f ≡ gone → Told q j r cs f
    stayed : taken t r cs ≡ false → (m : ℕ) → f ≡ row m → m + left t r cs ≡ j + (r - q) + come r cs → Told q j r cs f

  pub goes_fits : (c : Change Painted) → location c + goes t c ≤ onward t c
  goes_fits (insert p q s) = omega arith
  goes_fits (act p delete) = omega arith
  goes_fits (act p (rename h)) = omega arith
  goes_fits (act p (replace s)) = omega arith

  counted : (p g r : ℕ) → p + g ≤ r → cond (ltb p r) g 0 ≡ g
  counted p g r h = by_side p r (λ l. rw (lt-ltb p r l)) (λ l. rw (le-ltb p r l) (omega arith))

  module _ (q n : ℕ) (c : Change Painted) (cs : List (Change Painted)) (j r : ℕ)
      (v : Chain t q n (c ∷ cs)) (w : All Honest (c ∷ cs)) (l : q ≤ r) where
    abbrev p : ℕ
    p = location c

    abbrev on : ℕ
    on = onward t c

    -- the new row at which the old rows go on
    abbrev j' : ℕ
    j' = j + (p - q) + length (arrives c)

    abbrev Here : Type 0
    Here = Told q j r (c ∷ cs) (fate (track q n (c ∷ cs)) j r)

    rest : List Origin
    rest = arrives c ++ track on n cs

    -- before the change
    told-before : r < p → Here
    unfolding rest
    told-before h =
        let z : r < on = omega (arith, not_back t c) in
        let no_takes : leb p r ≡ false = lt-leb p r h in
        let no-left : ltb p r ≡ false = le-ltb p r (omega arith) in
        stayed (rw (no_takes, taken_none on n cs r v.1 z)) (j + (r - q))
        (fate_among q (p - q) rest j r l (omega (arith, v.0)))
        (rw (no_takes, no-left, left-none on n cs r v.1 (omega arith), come-none on n cs r v.1 z))

    -- past what it brings
    told-past : on ≤ r → Told on j' r cs (fate (track on n cs) j' r) → Here
    unfolding rest
    told-past h x =
        let moved : fate (track q n (c ∷ cs)) j r ≡ fate (track on n cs) j' r =
        fate-other q (p - q) rest j r (λ x u y e. omega (arith, v.0, h, not_back t c))
        ∙ fate_arrives c (track on n cs) (j + (p - q)) r w.0 (inr h) in
        go moved x
      where
        untaken : takes t r c ≡ false
        untaken = and_false (leb p r) (le-ltb r (p + goes t c) (omega (arith, h, goes_fits c)))

        go : fate (track q n (c ∷ cs)) j r ≡ fate (track on n cs) j' r → Told on j' r cs (fate (track on n cs) j' r)
            → Here
        go moved (went a b) = went (or_true (takes t r c) (taken t r cs) a) (moved ∙ b)
        go moved (stayed a m b e) =
            stayed (rw (untaken, a)) m (moved ∙ b)
            (rw (counted p (goes t c) r (omega (arith, h, goes_fits c)), le-leb p r (omega (arith, h, not_back t c)))
            (omega (arith, e, v.0, h, length_arrives c, goes_fits c)))

    -- at the rows that it takes away
    told-gone : p ≤ r → r < on → on ≡ p + goes t c → AllNew (arrives c) → Here
    unfolding rest
    told-gone h k e a =
        went (rw (le-leb p r h, lt-ltb r (p + goes t c) (omega arith)))
        (fate-other q (p - q) rest j r (λ x u y e. omega (arith, v.0))
        ∙ (fate-new (arrives c) (track on n cs) (j + (p - q)) r a ∙ fate-passed on n cs j' r v.1 w.1 k))

    -- at the row that it renames
    told_own : p ≤ r → on ≡ suc r → goes t c ≡ 0 → comes c ≡ 0 → arrives c ≡ old r ∷ [] → p ≡ r → Here
    unfolding rest fate
    told_own h k g f a e =
        stayed (rw (g, and_false (leb p r) (le-ltb r (p + 0) (omega arith)), taken_none on n cs r v.1 (omega arith)))
        (j + (p - q))
        (fate-other q (p - q) rest j r (λ x u y e. omega (arith, v.0)) ∙ rw (a, eq-eqb r r refl))
        (rw (
          g,
          f,
          counted p 0 r (omega arith),
          left-none on n cs r v.1 (omega arith),
          come-none on n cs r v.1
              (omega arith),
          le-leb p r h,
        )
        (omega arith))

  told_at : (q n : ℕ) (c : Change Painted) (cs : List (Change Painted)) (j r : ℕ) → Chain t q n (c ∷ cs)
      → All Honest (c ∷ cs) → q ≤ r → location c ≤ r → r < onward t c
      → Told q j r (c ∷ cs) (fate (track q n (c ∷ cs)) j r)
  told_at q n (insert p o s) cs j r v w l h k = absurd (omega arith)
  told_at q n (act p delete) cs j r v w l h k = told-gone q n (act p delete) cs j r v w l h k refl tt
  told_at q n (act p (rename g)) cs j r v w l h k =
      let e : p ≡ r = omega arith in
      told_own q n (act p (rename g)) cs j r v w l h (omega arith) refl refl (rw e) e
  told_at q n (act p (replace s)) cs j r v w l h k =
      told-gone q n (act p (replace s)) cs j r v w l h k refl w.0

  -- what became of row r, by the kept changes
  pub told : (q n : ℕ) (cs : List (Change Painted)) (j r : ℕ) → Chain t q n cs → All Honest cs → q ≤ r → r < n
      → Told q j r cs (fate (track q n cs) j r)
  told q n [] j r v w l h =
      stayed refl (j + (r - q))
      (ap (λ (os : List Origin). fate os j r) (sym (append-nil (rows_of old q (n - q))))
      ∙ fate_among q (n - q) [] j r l (omega arith))
      (omega arith)
  told q n (c ∷ cs) j r v w l h =
      by_side r (location c) (told-before q n c cs j r v w l)
      (λ a. by_side r (onward t c) (told_at q n c cs j r v w l a)
      (λ b. told-past q n c cs j r v w l b (told (onward t c) n cs _ r v.1 w.1 b h)))
