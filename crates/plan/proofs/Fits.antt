-- A list that passes tests 5, 7 and 8 fits the tree: each change has its place, and each may stand before all later
-- ones.
-- Assumes nothing.
use Prim.Native.Nat.{ℕ, zero, suc, ◌+◌, ◌-◌, ◌≤◌, ◌<◌}
use native.Mathlib.Omega.{arith}
use mathlib.Core.Path.{◌≡◌, sym, ◌∙◌, subst}
use mathlib.Core.Bool.{true, false, not, ◌&&◌, ◌||◌}
use mathlib.Core.List.{List, [], ◌∷◌}
use borrow.Author.Tests.{eqb-true}
use lib.Dec.{T, leb, ltb, eqb, leb→le, le→leb, ltb→lt, lt→ltb, eqb→eq, T_not}
use Rattle.plan.specs.declared.Record.{Record}
use Rattle.std.specs.Prelude.{Option, Some, None}
use Rattle.plan.specs.Tree.{Forest, none, tree, count, from, children}
use Rattle.plan.specs.Table.{Table}
use Rattle.plan.specs.Change.{Act, delete, Change, insert, act, opens, open_place, removes}
use Rattle.plan.specs.Records.{is_delete, is_insert, is_rename, change, changes, located, follows, alone}
use Rattle.plan.proofs.Kit.{T_and, and_T, T-or, T_of, true_of, false_of, or_left, or_right, eq→eqb, by_side, by_place, cond_elim, All, all_map}
use Rattle.plan.proofs.Standing.{here, kids, past, only_kids, only_past, location, side, valid, before, told}
use Rattle.plan.proofs.Cut.{Sorted, Fit}
use Rattle.plan.proofs.Faithful.{insert_valid, act_valid, kid_valid, past_valid}
use Rattle.plan.proofs.Rows.{below, from-kids, from-rest}
use Rattle.plan.proofs.OpenPlaces.{later-opens}

-- ---- test 5: a place
module _ {A : Type 0} where
  -- among the siblings below q
  opens_valid : (b u p q x : ℕ) (s f : Forest A) → u ≤ b → suc q ≡ u → p ≡ b + x → T (opens f x)
      → T (valid b u f (insert p q s))
  unfolding opens valid
  opens_valid b u p q x s none h w e t =
      let z = eqb→eq x 0 t in
      and_T (eqb p b) (eqb (suc q) u) (eq→eqb p b (omega arith)) (eq→eqb (suc q) u w)
  opens_valid b u p q zero s (tree a k r) h w e t =
      insert_valid b u p q s (tree a k r)
      (and_T (eqb p b) (eqb (suc q) u) (eq→eqb p b (omega arith)) (eq→eqb (suc q) u w))
  opens_valid b u p q (suc x) s (tree a k r) h w e t =
      let z = later-opens a k r x t in
      let n : ℕ = suc b + count k in
      past_valid b u (insert p q s) a k r
      (only_past (side b u n (insert p q s)) (λ v. omega (arith, told b u n (insert p q s) here h v))
      (λ v. omega (arith, told b u n (insert p q s) kids h v)))
      (opens_valid n u p q (x - count k) s r (omega arith) w (omega (arith, z.0)) z.1)

  -- under any row
  place_valid : (b u p q x : ℕ) (s f : Forest A) → u ≤ b → q ≡ b + x → x < count f → q < p
      → T (opens (below f x) (p - suc q)) → T (valid b u f (insert p q s))
  unfolding from
  place_valid b u p q x s none h e l m t = absurd (omega arith)
  place_valid b u p q zero s (tree a k r) h e l m t =
      let n : ℕ = suc b + count k in
      kid_valid b u (insert p q s) a k r
      (only_kids (side b u n (insert p q s)) (λ v. omega (arith, told b u n (insert p q s) here h v))
      (λ v. omega (arith, told b u n (insert p q s) past h v (omega arith))))
      (opens_valid (suc b) (suc b) p q (p - suc q) s k (omega arith) (omega arith) (omega arith) t)
  place_valid b u p q (suc x) s (tree a k r) h e l m t =
      let n : ℕ = suc b + count k in
      by_side x (count k)
      (λ i.
      kid_valid b u (insert p q s) a k r
      (only_kids (side b u n (insert p q s)) (λ v. omega (arith, told b u n (insert p q s) here h v))
      (λ v. omega (arith, told b u n (insert p q s) past h v (omega arith))))
      (place_valid (suc b) (suc b) p q x s k (omega arith) (omega arith) i m
      (subst (λ (g : Forest A). T (opens (children g) (p - suc q))) (from-kids a k r x i) t)))
      (λ i.
      past_valid b u (insert p q s) a k r
      (only_past (side b u n (insert p q s)) (λ v. omega (arith, told b u n (insert p q s) here h v))
      (λ v. omega (arith, told b u n (insert p q s) kids h v)))
      (place_valid n u p q (x - count k) s r (omega arith) (omega arith) (omega arith) m
      (subst (λ (g : Forest A). T (opens (children g) (p - suc q))) (from-rest a k r x i) t)))

  row_valid : (b u p : ℕ) (y : Act A) (f : Forest A) → u ≤ b → b ≤ p → p < b + count f → T (valid b u f (act p y))
  row_valid b u p y none h m n = absurd (omega arith)
  row_valid b u p y (tree a k r) h m n =
      let e : ℕ = suc b + count k in
      by_place p b (λ i. absurd (omega arith)) (λ i. act_valid b u p y a k r (eq→eqb p b i))
      (λ i.
      by_side p e
      (λ j.
      kid_valid b u (act p y) a k r
      (only_kids (side b u e (act p y)) (λ w. omega (arith, told b u e (act p y) here h w))
      (λ w. omega (arith, told b u e (act p y) past h w m)))
      (row_valid (suc b) (suc b) p y k (omega arith) i (omega arith)))
      (λ j.
      past_valid b u (act p y) a k r
      (only_past (side b u e (act p y)) (λ w. omega (arith, told b u e (act p y) here h w))
      (λ w. omega (arith, told b u e (act p y) kids h w)))
      (row_valid e u p y r (omega arith) j (omega arith))))

-- ---- what a record is read as
-- the change c is what the record r says, of whatever labels
pub data Reads {A : Type 0} (r : Record) : Change A → Type 0 where
  as_insert : (s : Forest A) → is_insert r ≡ true → Reads r (insert r.location r.parent s)
  as_act : (x : Act A) → is_insert r ≡ false → (T (removes x) → T (is_rename r) → ⊥) → Reads r (act r.location x)

pub data ReadsAll {A : Type 0} : List Record → List (Change A) → Type 0 where
  nil : ReadsAll [] []
  cons : {r : Record} {c : Change A} {rs : List Record} {cs : List (Change A)} → Reads r c → ReadsAll rs cs
      → ReadsAll (r ∷ rs) (c ∷ cs)

kinds_apart : (k m n : ℕ) → eqb k m ≡ true → T (eqb k n) → m ≡ n
kinds_apart k m n e t = omega (arith, eqb-true k m e, eqb→eq k n t)

change_reads : (i : Table) (k : ℕ) (r : Record) → Reads r (change i k r)
unfolding change
change_reads i k r =
    cond_elim (Reads r) (is_delete r) _ _
    (λ e. as_act delete (false_of (is_insert r) (λ t. omega (arith, kinds_apart r.kind 1 2 e t)))
    (λ u t. omega (arith, kinds_apart r.kind 1 3 e t)))
    (λ e. cond_elim (Reads r) (is_insert r) _ _ (λ w. as_insert _ w)
    (λ w. cond_elim (Reads r) (is_rename r) _ _ (λ z. as_act _ w (λ u t. u)) (λ z. as_act _ w (λ u t. subst T z t))))

pub changes_read : (i : Table) (k : ℕ) (rs : List Record) → ReadsAll rs (changes i k rs)
unfolding changes
changes_read i k [] = nil
changes_read i k (r ∷ rs) = cons (change_reads i k r) (changes_read i (suc k) rs)

-- ---- tests 7 and 8: the order
-- the records are in order behind b
abbrev pub InOrder : Option Record → List Record → Type 0
InOrder b [] = Unit {0}
InOrder b (r ∷ rs) = T (follows b r) × T (alone b r) × InOrder (Some r) rs

-- what the two tests tell
record Follows (p r : Record) : Type 0 where
  not-below : p.location ≤ r.location
  deeper_first : p.location ≡ r.location → is_insert r ≡ true → (is_insert p ≡ true) × (r.parent ≤ p.parent)
  one_insert : p.location ≡ r.location → is_insert p ≡ false → is_insert r ≡ false → ⊥

follows-told : (p r : Record) → T (follows (Some p) r) → T (alone (Some p) r) → Follows p r
unfolding follows alone
follows-told p r f a =
    T-or (ltb p.location r.location) _
    (λ l. let m = ltb→lt p.location r.location l in
    record {
      not-below = omega arith;
      deeper_first = λ e i. absurd (omega arith);
      one_insert = λ e u v. absurd
          (omega arith);
    })
    (λ l.
    let w = T_and (eqb p.location r.location)
    (not (is_insert r) || (is_insert p && leb r.parent p.parent)) l in
    let m = eqb→eq p.location r.location w.0 in
    record {
      not-below = omega arith;
      deeper_first = λ e i. T-or (not (is_insert r)) _ (λ n. absurd (T_not (is_insert r) n (T_of (is_insert r) i)))
          (λ n. let z = T_and (is_insert p) (leb r.parent p.parent) n in
          (true_of (is_insert p) z.0, leb→le r.parent p.parent z.1)) w.1;
      one_insert = λ e u v. T-or (not (eqb p.location r.location)) _
          (λ n. T_not (eqb p.location r.location) n (eq→eqb p.location r.location e))
          (λ n. T-or (is_insert p) (is_insert r) (λ z. subst T u z) (λ z. subst T v z) n) a;
    }) f

module _ {A : Type 0} where
  -- the order, as facts
  abbrev Ahead : Change A → Change A → Type 0
  Ahead (insert p q s) (insert p' q' s') = (p ≤ p') × (p' ≤ p → q' ≤ q)
  Ahead (insert p q s) (act p' x) = p ≤ p'
  Ahead (act p x) d = p < location d

  ahead_before : (c d : Change A) → Ahead c d → T (before c d)
  ahead_before (insert p q s) (insert p' q' s') h =
      by_side p p' (λ l. or_left (ltb p p') (eqb p p' && leb q' q) (lt→ltb p p' l))
      (λ l. or_right (ltb p p') (eqb p p' && leb q' q)
      (and_T (eqb p p') (leb q' q) (eq→eqb p p' (omega arith)) (le→leb q' q (h.1 l))))
  ahead_before (insert p q s) (act p' x) h = le→leb p p' h
  ahead_before (act p x) d h = lt→ltb p (location d) h

  before-ahead : (c d : Change A) → T (before c d) → Ahead c d
  before-ahead (insert p q s) (insert p' q' s') t =
      T-or (ltb p p') (eqb p p' && leb q' q) (λ l. let m = ltb→lt p p' l in omega arith)
      (λ l.
      let v = T_and (eqb p p') (leb q' q) l in
      let m = eqb→eq p p' v.0 in
      let w = leb→le q' q v.1 in
      omega arith) t
  before-ahead (insert p q s) (act p' x) t = leb→le p p' t
  before-ahead (act p x) d t = ltb→lt p (location d) t

  ahead_trans : (c d e : Change A) → Ahead c d → Ahead d e → Ahead c e
  ahead_trans (insert p q s) (insert p' q' s') (insert p'' q'' s'') h l =
      (omega arith, λ m. omega (arith, h.1 (omega arith), l.1 (omega arith)))
  ahead_trans (insert p q s) (insert p' q' s') (act p'' x) h l = omega arith
  ahead_trans (insert p q s) (act p' x) (insert p'' q'' s'') h l = omega arith
  ahead_trans (insert p q s) (act p' x) (act p'' y) h l = omega arith
  ahead_trans (act p x) (insert p' q' s') (insert p'' q'' s'') h l = omega arith
  ahead_trans (act p x) (insert p' q' s') (act p'' y) h l = omega arith
  ahead_trans (act p x) (act p' y) d h l = omega arith

  before_all : (c d : Change A) (cs : List (Change A)) → T (before c d) → All (λ e. T (before d e)) cs
      → All (λ e. T (before c e)) cs
  before_all c d cs t v =
      all_map (λ e. T (before d e)) (λ e. T (before c e))
      (λ e w. ahead_before c e (ahead_trans c d e (before-ahead c d t) (before-ahead d e w))) cs v

  reads_before : {p r : Record} {c d : Change A} → Reads p c → Reads r d → Follows p r → T (before c d)
  reads_before {p} {r} (as_insert s i) (as_insert u j) f =
      ahead_before (insert p.location p.parent s) (insert r.location r.parent u)
      (f.not-below, λ l. (f.deeper_first (omega (arith, f.not-below)) j).1)
  reads_before {p} {r} (as_insert s i) (as_act x j n) f = le→leb p.location r.location f.not-below
  reads_before {p} {r} (as_act x i n) (as_insert u j) f =
      lt→ltb p.location r.location
      (by_place p.location r.location (λ l. l)
      (λ e. absurd (subst T (sym (f.deeper_first e j).0 ∙ i) tt)) (λ l. absurd (omega (arith, f.not-below))))
  reads_before {p} {r} (as_act x i n) (as_act y j m) f =
      lt→ltb p.location r.location
      (by_place p.location r.location (λ l. l) (λ e. absurd (f.one_insert e i j))
      (λ l. absurd (omega (arith, f.not-below))))

  sorted_behind : {r : Record} {c : Change A} {rs : List Record} {cs : List (Change A)}
      → Reads r c → ReadsAll rs cs → InOrder (Some r) rs → Sorted (c ∷ cs)
  sorted_behind w nil o = (tt, tt)
  sorted_behind {r} {c} w (cons {r = r'} {c = d} {cs = ds} v vs) o =
      let z = sorted_behind {r = r'} {c = d} v vs o.2 in
      let b = reads_before w v (follows-told r r' o.0 o.1) in
      ((b, before_all c d ds b z.0), z)

  sorted : {rs : List Record} {cs : List (Change A)} → ReadsAll rs cs → InOrder None rs → Sorted cs
  sorted nil o = tt
  sorted (cons w ws) o = sorted_behind w ws o.2

  -- ---- test 5, of a record
  located_valid : (t : Forest A) {r : Record} {c : Change A} → Reads r c → T (located t r) → T (valid 0 0 t c)
  unfolding located open_place
  located_valid t {r} (as_insert s i) h =
      let p : ℕ = r.location in
      let q : ℕ = r.parent in
      let v : T (ltb q (count t) && (ltb q p && opens (below t q) (p - suc q))) = rw i at h in
      let w = T_and (ltb q (count t)) (ltb q p && opens (below t q) (p - suc q)) v in
      let z = T_and (ltb q p) (opens (below t q) (p - suc q)) w.1 in
      place_valid 0 0 p q q s t (omega arith) (omega arith) (ltb→lt q (count t) w.0) (ltb→lt q p z.0) z.1
  located_valid t {r} (as_act x i n) h =
      let p : ℕ = r.location in
      let v : T (ltb p (count t) && (is_rename r || ltb 0 p)) = rw i at h in
      let w = T_and (ltb p (count t)) (is_rename r || ltb 0 p) v in
      row_valid 0 0 p x t (omega arith) (omega arith) (omega (arith, ltb→lt p (count t) w.0))

  all_valid : (t : Forest A) {rs : List Record} {cs : List (Change A)} → ReadsAll rs cs → All (λ r. T (located t r)) rs
      → All (λ c. T (valid 0 0 t c)) cs
  all_valid t nil h = tt
  all_valid t (cons w ws) h = (located_valid t w h.0, all_valid t ws h.1)

  pub fits : (t : Forest A) {rs : List Record} {cs : List (Change A)} → ReadsAll rs cs
      → All (λ r. T (located t r)) rs → InOrder None rs → Fit 0 0 t cs
  fits t w h o = (all_valid t w h, sorted w o)
