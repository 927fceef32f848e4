-- Demand 3, the survivors: both mappings are inverse on the rows that survive, these keep their order, a renamed row
-- survives, and the rows that a kept change removes are gone.
-- Assumes nothing.
use Prim.Native.Nat.{ℕ, zero, suc, ◌+◌, ◌-◌, ◌≤◌, ◌<◌}
use native.Mathlib.Omega.{arith}
use mathlib.Core.Path.{◌≡◌, refl, sym, ap, ◌∙◌}
use mathlib.Core.Bool.{Bool, true, false, cond}
use mathlib.Core.List.{List, [], ◌∷◌, ◌++◌, append-nil}
use lib.Dec.{T, leb, eqb}
use lib.ListN.{length}
use borrow.Author.Tests.{eqb-true, eq-eqb, ne_eqb, le-ltb}
use Rattle.plan.specs.declared.Record.{Record}
use Rattle.plan.specs.Tree.{Forest, count}
use Rattle.plan.specs.Table.{Table}
use Rattle.plan.specs.Change.{delete, rename, replace, Change, insert, act, location}
use Rattle.plan.specs.Paint.{Origin, old, new, Painted, plan, origins}
use Rattle.plan.specs.Call.{result}
use Rattle.plan.specs.Mapping.{row, gone, fate, origin_at, goes, takes, taken}
use Rattle.plan.proofs.Kit.{and_false, or_true, true_of, by_place, All}
use Rattle.plan.proofs.Merge.{onward, Chain, not_back}
use Rattle.plan.proofs.Mapping.{rows_of, AllNew, arrives, track, Honest, Told, went, stayed, goes_fits, taken_none, length-origins}
use Rattle.plan.proofs.Origins.{Fair, kept_of, kept_follow, kept_honest, origins-result, new-number}

-- the old rows among origins rise, and are at least q
abbrev pub Rising : ℕ → List Origin → Type 0
Rising q [] = Unit {0}
Rising q (old x ∷ os) = (q ≤ x) × Rising (suc x) os
Rising q (new k i ∷ os) = Rising q os

rising-rows : (q m : ℕ) (os : List Origin) → Rising (q + m) os → Rising q (rows_of old q m ++ os)
rising-rows q zero os v = let e : q + 0 ≡ q = omega arith in rw e at v
rising-rows q (suc m) os v =
    let e : q + suc m ≡ suc q + m = omega arith in (omega arith, rising-rows (suc q) m os (rw e at v))

rising-new : (q : ℕ) (ns os : List Origin) → AllNew ns → Rising q os → Rising q (ns ++ os)
rising-new q [] os v w = w
rising-new q (old x ∷ ns) os v w = absurd v
rising-new q (new k i ∷ ns) os v w = rising-new q ns os v w

rising-later : (q r : ℕ) (os : List Origin) → q ≤ r → Rising r os → Rising q os
rising-later q r [] h v = tt
rising-later q r (old x ∷ os) h v = (omega arith, v.1)
rising-later q r (new k i ∷ os) h v = rising-later q r os h v

module _ (t : Forest Painted) where
  rising_arrives : (c : Change Painted) (os : List Origin) → Honest t c → Rising (onward t c) os
      → Rising (location c) (arrives t c ++ os)
  rising_arrives (insert p q s) os h v = rising-new p (origins s) os h v
  rising_arrives (act p delete) os h v = rising-later p _ os (omega arith) v
  rising_arrives (act p (rename g)) os h v = (omega arith, v)
  rising_arrives (act p (replace s)) os h v = rising-new p (origins s) os h (rising-later p _ os (omega arith) v)

  rising_track : (q n : ℕ) (cs : List (Change Painted)) → Chain t q n cs → All (Honest t) cs → Rising q (track t q n cs)
  rising_track q n [] v w = rw append-nil at (rising-rows q (n - q) [] tt)
  rising_track q n (c ∷ cs) v w =
      let on : ℕ = onward t c in
      let e : q + (location c - q) ≡ location c = omega (arith, v.0) in
      rising-rows q (location c - q) (arrives t c ++ track t on n cs)
      (rw e (rising_arrives c (track t on n cs) w.0 (rising_track on n cs v.1 w.1)))

-- a row that is found stands there
found_at : (os : List Origin) (j r m : ℕ) → fate os j r ≡ row m
    → (j ≤ m) × (m < j + length os) × (origin_at os (m - j) ≡ old r)
unfolding fate
found_at [] j r m e = let z : ◌≡◌ {A = ℕ} 0 1 = cc in absurd (omega arith)
found_at (old x ∷ os) j r m e = go (eqb x r) refl e (found_at os (suc j) r m)
  where
    go : (b : Bool) → eqb x r ≡ b → cond b (row j) (fate os (suc j) r) ≡ row m
        → (fate os (suc j) r ≡ row m → (suc j ≤ m) × (m < suc j + length os) × (origin_at os (m - suc j) ≡ old r))
        → (j ≤ m) × (m < j + suc (length os)) × (origin_at (old x ∷ os) (m - j) ≡ old r)
    go true w e f =
        let a : j ≡ m = cc in
        let z : m - j ≡ 0 = omega arith in
        (omega arith, omega arith, rw z (ap old (eqb-true x r w)))
    go false w e f =
        let v = f e in
        let z : m - j ≡ suc (m - suc j) = omega (arith, v.0) in
        (omega (arith, v.0), omega (arith, v.1), rw z v.2)
found_at (new k i ∷ os) j r m e =
    let v = found_at os (suc j) r m e in
    let z : m - j ≡ suc (m - suc j) = omega (arith, v.0) in
    (omega (arith, v.0), omega (arith, v.1), rw z v.2)

-- an old row among rising ones is at least as large as the first may be
rising-at : (q : ℕ) (os : List Origin) (x r : ℕ) → Rising q os → x < length os → origin_at os x ≡ old r → q ≤ r
rising-at q [] x r v l e = absurd (omega arith)
rising-at q (old y ∷ os) zero r v l e = let z : y ≡ r = cc in omega (arith, v.0)
rising-at q (old y ∷ os) (suc x) r v l e = omega (arith, v.0, rising-at (suc y) os x r v.1 (omega arith) e)
rising-at q (new k i ∷ os) zero r v l e = let z : ◌≡◌ {A = ℕ} 0 1 = cc in absurd (omega arith)
rising-at q (new k i ∷ os) (suc x) r v l e = rising-at q os x r v (omega arith) e

-- what stands at a row is found there
at_found : (q : ℕ) (os : List Origin) (j x r : ℕ) → Rising q os → x < length os → origin_at os x ≡ old r
    → fate os j r ≡ row (j + x)
unfolding fate
at_found q [] j x r v l e = absurd (omega arith)
at_found q (old y ∷ os) j zero r v l e = let z : y ≡ r = cc in rw (eq-eqb y r z) (ap row (omega arith))
at_found q (old y ∷ os) j (suc x) r v l e =
    let m = rising-at (suc y) os x r v.1 (omega arith) e in
    rw (ne_eqb y r (omega arith)) (at_found (suc y) os (suc j) x r v.1 (omega arith) e ∙ ap row (omega arith))
at_found q (new k i ∷ os) j zero r v l e = let z : ◌≡◌ {A = ℕ} 0 1 = cc in absurd (omega arith)
at_found q (new k i ∷ os) j (suc x) r v l e = at_found q os (suc j) x r v (omega arith) e ∙ ap row (omega arith)

rising_order : (q : ℕ) (os : List Origin) (x y a b : ℕ) → Rising q os → x < y → y < length os
    → origin_at os x ≡ old a → origin_at os y ≡ old b → a < b
rising_order q [] x y a b v k l e f = absurd (omega arith)
rising_order q (old z ∷ os) zero zero a b v k l e f = absurd (omega arith)
rising_order q (old z ∷ os) zero (suc y) a b v k l e f =
    let w : z ≡ a = cc in omega (arith, rising-at (suc z) os y b v.1 (omega arith) f)
rising_order q (old z ∷ os) (suc x) zero a b v k l e f = absurd (omega arith)
rising_order q (old z ∷ os) (suc x) (suc y) a b v k l e f =
    rising_order (suc z) os x y a b v.1 (omega arith) (omega arith) e f
rising_order q (new k' i ∷ os) zero y a b v k l e f = let w : ◌≡◌ {A = ℕ} 0 1 = cc in absurd (omega arith)
rising_order q (new k' i ∷ os) (suc x) zero a b v k l e f = absurd (omega arith)
rising_order q (new k' i ∷ os) (suc x) (suc y) a b v k l e f =
    rising_order q os x y a b v (omega arith) (omega arith) e f

-- ---- a change among the kept ones
module _ (t : Forest Painted) where
  taken_member : (xs ys : List (Change Painted)) (c : Change Painted) (r : ℕ) → T (takes t r c)
      → taken t r (xs ++ c ∷ ys) ≡ true
  taken_member [] ys c r h = rw (true_of (takes t r c) h)
  taken_member (x ∷ xs) ys c r h = or_true (takes t r x) (taken t r (xs ++ c ∷ ys)) (taken_member xs ys c r h)

  -- what stands before a change is done with at its location
  chain_behind : (q n : ℕ) (xs ys : List (Change Painted)) (c : Change Painted) → Chain t q n (xs ++ c ∷ ys)
      → (q ≤ location c) × Chain t (onward t c) n ys
  chain_behind q n [] ys c v = v
  chain_behind q n (x ∷ xs) ys c v =
      let w = chain_behind (onward t x) n xs ys c v.1 in (omega (arith, v.0, w.0, not_back t x), w.1)

  untaken_renamed : (q n : ℕ) (xs ys : List (Change Painted)) (p : ℕ) (h : Painted → Painted)
      → Chain t q n (xs ++ act p (rename h) ∷ ys) → taken t p (xs ++ act p (rename h) ∷ ys) ≡ false
  untaken_renamed q n [] ys p h v =
      rw (and_false (leb p p) (le-ltb p (p + 0) (omega arith)), taken_none t (suc p) n ys p v.1 (omega arith))
  untaken_renamed q n (x ∷ xs) ys p h v =
      let w = chain_behind (onward t x) n xs ys (act p (rename h)) v.1 in
      rw (and_false (leb (location x) p) (le-ltb p (location x + goes t x) (omega (arith, w.0, goes_fits t x))))
      (untaken_renamed (onward t x) n xs ys p h v.1)

-- ---- the theorems
module _ (t i : Table) (l : List Record) (w : Fair t l) where
  abbrev os : List Origin
  os = origins (result t i l)

  rising : Rising 0 os
  rising =
      rw (origins-result t i l w)
      (rising_track (plan old t) 0 (length t.size) (kept_of t i l) (kept_follow t i l w)
      (kept_honest t i l w))

  -- old to new, then new to old: the row itself
  pub there_and_back : (r m : ℕ) → fate os 0 r ≡ row m → (m < count (result t i l)) × (origin_at os m ≡ old r)
  there_and_back r m e =
      let v = found_at os 0 r m e in
      let z : m - 0 ≡ m = omega arith in
      (omega (arith, v.1, length-origins (result t i l)), rw z at v.2)

  -- new to old, then old to new: the row itself
  pub back_and_there : (m r : ℕ) → m < count (result t i l) → origin_at os m ≡ old r → fate os 0 r ≡ row m
  back_and_there m r k e =
      at_found 0 os 0 m r rising (omega (arith, length-origins (result t i l))) e ∙ ap row (omega arith)

  -- the order of survivors stays
  pub order_stays : (r s m n : ℕ) → fate os 0 r ≡ row m → fate os 0 s ≡ row n → r < s → m < n
  order_stays r s m n e f k =
      let u = there_and_back r m e in
      let v = there_and_back s n f in
      by_place m n (λ z. z)
      (λ z.
      let q : old r ≡ old s = sym u.1 ∙ (ap (origin_at os) z ∙ v.1) in
      let y : r ≡ s = cc in
      absurd (omega arith))
      (λ z.
      let long : m < length os = omega (arith, u.0, length-origins (result t i l)) in
      absurd (omega (arith, rising_order 0 os n m s r rising z long v.1 u.1)))

  -- what a kept change removes is gone; a replaced row too
  pub removed-gone : (xs ys : List (Change Painted)) (c : Change Painted) (r : ℕ) → kept_of t i l ≡ xs ++ c ∷ ys
      → r < length t.size → T (takes (plan old t) r c) → fate os 0 r ≡ gone
  removed-gone xs ys c r e k v = go (new-number t i l w r k)
    where
      is-taken : taken (plan old t) r (kept_of t i l) ≡ true
      is-taken = rw e (taken_member (plan old t) xs ys c r v)

      go : Told (plan old t) 0 0 r (kept_of t i l) (fate os 0 r) → fate os 0 r ≡ gone
      go (went a b) = b
      go (stayed a m b z) =
          let y : true ≡ false = sym is-taken ∙ a in let x : ◌≡◌ {A = ℕ} 0 1 = cc in absurd (omega arith)

  -- a renamed row survives
  pub renamed_stays : (xs ys : List (Change Painted)) (q : ℕ) (g : Painted → Painted)
      → kept_of t i l ≡ xs ++ act q (rename g) ∷ ys → q < length t.size → (m : ℕ) × (fate os 0 q ≡ row m)
  renamed_stays xs ys q g e k = go (new-number t i l w q k)
    where
      not_taken : taken (plan old t) q (kept_of t i l) ≡ false
      not_taken = rw e (untaken_renamed (plan old t) 0 (length t.size) xs ys q g (rw e at (kept_follow t i l w)))

      go : Told (plan old t) 0 0 q (kept_of t i l) (fate os 0 q) → (m : ℕ) × (fate os 0 q ≡ row m)
      go (went a b) = let y : true ≡ false = sym a ∙ not_taken in let x : ◌≡◌ {A = ℕ} 0 1 = cc in absurd (omega arith)
      go (stayed a m b z) = (m, b)
