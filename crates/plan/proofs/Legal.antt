-- Applied singly, the last first, each record of a list that passed is a legal change of the tree as it then is. A
-- change that has its place is legal; and later changes, made first, leave a change its place.
-- Assumes nothing.
use Prim.Native.Nat.{ℕ, suc, ◌+◌, ◌-◌, ◌≤◌, ◌<◌}
use native.Mathlib.Omega.{arith}
use mathlib.Core.Path.{◌≡◌, subst}
use mathlib.Core.Bool.{◌&&◌}
use mathlib.Core.List.{List, [], ◌∷◌}
use lib.Dec.{T, leb, ltb, le→leb, lt→ltb}
use Rattle.plan.specs.declared.Record.{Record}
use Rattle.std.specs.Prelude.{None}
use Rattle.plan.specs.Tree.{Forest, none, tree, count, from, children}
use Rattle.plan.specs.Table.{Table}
use Rattle.plan.specs.Change.{Change, insert, act, opens, open_place, legal, meaning, AllLegal}
use Rattle.plan.specs.Paint.{old, plan}
use Rattle.plan.specs.Records.{changes}
use Rattle.plan.proofs.Kit.{and_T, eq→eqb, by_place}
use Rattle.plan.proofs.Rows.{from-kids, from-rest}
use Rattle.plan.proofs.Standing.{past, kids, valid, mine_told, told, inside}
use Rattle.plan.proofs.Cut.{Fit, top, deep, kid, later, Class, class, in_kid, in_past}
use Rattle.plan.proofs.Faithful.{still_all, made_meaning}
use Rattle.plan.proofs.Fits.{changes_read, fits}
use Rattle.plan.proofs.Tested.{PassAll, all_located, all_ordered}

module _ {A : Type 0} where
  -- ---- a change that has its place is legal
  -- among siblings, the first of which stands just behind their parent q: the first tree, or those past it
  opens_by : (b u p q : ℕ) (s : Forest A) (a : A) (k r : Forest A) → u ≤ b → suc q ≡ u → Class b u k r (insert p q s)
      → (T (valid (suc b + count k) u r (insert p q s)) → T (opens r (p - (suc b + count k))))
      → T (opens (tree a k r) (p - b))
  unfolding opens
  opens_by b u p q s a k r h w (top m) f =
      let t = mine_told b u b (insert p q s) h m in
      let e : 0 ≡ p - b = omega arith in
      subst (λ (x : ℕ). T (opens (tree a k r) x)) e tt
  opens_by b u p q s a k r h w (deep (kid m)) f =
      let t = told b u (suc b + count k) (insert p q s) kids h m.0 in absurd (omega arith)
  opens_by b u p q s a k r h w (deep (later m)) f =
      let i = in_past b u k r h (insert p q s) m in
      let z : p - (suc b + count k) ≡ p - suc b - count k = omega arith in
      let e : suc (p - suc b) ≡ p - b = omega arith in
      subst (λ (x : ℕ). T (opens (tree a k r) x)) e
      (and_T (leb (count k) (p - suc b)) (opens r (p - suc b - count k)) (le→leb (count k) (p - suc b) (omega arith))
      (subst (λ (x : ℕ). T (opens r x)) z (f m.1)))

  valid_opens : (b u p q : ℕ) (s f : Forest A) → u ≤ b → suc q ≡ u → T (valid b u f (insert p q s))
      → T (opens f (p - b))
  unfolding opens valid
  valid_opens b u p q s none h w v =
      let m = mine_told b u b (insert p q s) h v in eq→eqb (p - b) 0 (omega arith)
  valid_opens b u p q s (tree a k r) h w v =
      opens_by b u p q s a k r h w (class b u k r a (insert p q s) v)
      (λ m. valid_opens (suc b + count k) u p q s r (omega arith) w m)

  -- under any row q: the row itself, a row below it, or one past it
  abbrev Opens : (b p q : ℕ) → Forest A → Type 0
  Opens b p q f = T (opens (children (from f (q - b))) (p - suc q))

  place_by : (b u p q : ℕ) (s : Forest A) (a : A) (k r : Forest A) → u ≤ b → b ≤ q → Class b u k r (insert p q s)
      → (T (valid (suc b) (suc b) k (insert p q s)) → b < q → Opens (suc b) p q k)
      → (T (valid (suc b + count k) u r (insert p q s)) → suc b + count k ≤ q → Opens (suc b + count k) p q r)
      → Opens b p q (tree a k r)
  unfolding from
  place_by b u p q s a k r h l (top m) f g = let t = mine_told b u b (insert p q s) h m in absurd (omega arith)
  place_by b u p q s a k r h l (deep (kid m)) f g =
      let i = in_kid b u k r h (insert p q s) m in
      by_place q b (λ z. absurd (omega arith))
      (λ z.
      let e : 0 ≡ q - b = omega arith in
      let d : p - suc b ≡ p - suc q = omega arith in
      subst (λ (x : ℕ). T (opens (children (from (tree a k r) x)) (p - suc q))) e
      (subst (λ (x : ℕ). T (opens k x)) d
      (valid_opens (suc b) (suc b) p q s k (omega arith) (omega arith) m.1)))
      (λ z.
      let e : suc (q - suc b) ≡ q - b = omega arith in
      subst (λ (x : ℕ). T (opens (children (from (tree a k r) x)) (p - suc q))) e
      (rw (from-kids a k r (q - suc b) (omega arith)) (f m.1 z)))
  place_by b u p q s a k r h l (deep (later m)) f g =
      let t = told b u (suc b + count k) (insert p q s) past h m.0 l in
      let e : suc (q - suc b) ≡ q - b = omega arith in
      let d : q - (suc b + count k) ≡ q - suc b - count k = omega arith in
      subst (λ (x : ℕ). T (opens (children (from (tree a k r) x)) (p - suc q))) e
      (rw (from-rest a k r (q - suc b) (omega arith))
      (subst (λ (x : ℕ). T (opens (children (from r x)) (p - suc q))) d (g m.1 t)))

  valid_place : (b u p q : ℕ) (s f : Forest A) → u ≤ b → b ≤ q → T (valid b u f (insert p q s)) → Opens b p q f
  unfolding valid
  valid_place b u p q s none h l v = let m = mine_told b u b (insert p q s) h v in absurd (omega arith)
  valid_place b u p q s (tree a k r) h l v =
      place_by b u p q s a k r h l (class b u k r a (insert p q s) v)
      (λ m z. valid_place (suc b) (suc b) p q s k (omega arith) (omega arith) m)
      (λ m z. valid_place (suc b + count k) u p q s r (omega arith) z m)

  valid_legal : (f : Forest A) (c : Change A) → T (valid 0 0 f c) → T (legal f c)
  unfolding legal open_place
  valid_legal f (insert p q s) v =
      let i = inside 0 0 f (insert p q s) (omega arith) v in
      let z : q - 0 ≡ q = omega arith in
      and_T (ltb q (count f)) (ltb q p && opens (children (from f q)) (p - suc q)) (lt→ltb q (count f) (omega arith))
      (and_T (ltb q p) (opens (children (from f q)) (p - suc q)) (lt→ltb q p i.3)
      (subst (λ (x : ℕ). T (opens (children (from f x)) (p - suc q))) z
      (valid_place 0 0 p q s f (omega arith) (omega arith) v)))
  valid_legal f (act p x) v =
      let i = inside 0 0 f (act p x) (omega arith) v in lt→ltb p (count f) (omega arith)

  -- ---- each change of a list that fits is legal when its turn comes
  fit_legal : (t : Forest A) (cs : List (Change A)) → Fit 0 0 t cs → AllLegal cs t
  fit_legal t [] w = tt
  fit_legal t (c ∷ cs) w =
      let rest : Fit 0 0 t cs = (w.0.1, w.1.1) in
      let v = still_all 0 0 t c cs (omega arith) w.0.0 w.1.0 rest in (
        valid_legal (meaning cs t) c (subst (λ (f : Forest A). T (valid 0 0 f c)) (made_meaning t cs rest) v),
        fit_legal t cs rest,
      )

-- the records of a list that passed tests 4 to 8
pub all_legal : (t i : Table) (l : List Record) → PassAll (plan old t) i None l
    → AllLegal (changes i 0 l) (plan old t)
all_legal t i l h =
    let f = plan old t in
    fit_legal f (changes i 0 l)
    (fits f (changes_read i 0 l) (all_located f i None l h) (all_ordered f i None l h))
