-- Open places: on the table of a tree the paper's definition, the test in constant time and "a child can be put there"
-- are one. The distances tell siblings apart: among trees of which the first stands d rows behind their parent, one
-- starts at row x exactly where the distance is d + x.
-- Assumes nothing.
use Prim.Native.Nat.{ℕ, zero, suc, ◌+◌, ◌-◌, ◌≤◌, ◌<◌}
use native.Mathlib.Omega.{arith}
use mathlib.Core.Path.{◌≡◌, refl, sym, ap, ◌∙◌, subst}
use mathlib.Core.Logic.{◌↔◌, ◌≢◌, inl, inr}
use mathlib.Core.List.{List}
use lib.Dec.{T, leb, ltb, leb→le, le→leb, ltb→lt, lt→ltb, eqb→eq}
use lib.ListN.{length, get_or}
use Rattle.plan.specs.Tree.{Forest, none, tree, count, sizes, dists, from}
use Rattle.plan.specs.Table.{Table, table}
use Rattle.plan.specs.Change.{opens, open_place}
use Rattle.plan.specs.Open.{size_at, Child, OpenPlace, QuickPlace}
use Rattle.plan.proofs.Kit.{T_and, and_T, by_place, by_side}
use Rattle.plan.proofs.Columns.{length-sizes}
use Rattle.plan.proofs.Rows.{below, below_fits, from-kids, from-rest, column-kids, column-rest, is-dist, is-size, size_column, size-at, size_below, dist-below}

-- what the distance of row x is, whether or not a tree starts there
record Bounds (d x dist : ℕ) : Type 0 where
  some : 1 ≤ dist
  most : dist ≤ d + x
  inner : dist ≢ d + x → dist ≤ x

module _ {A : Type 0} where
  -- ---- places among siblings
  pub opens-later : (a : A) (k r : Forest A) (x : ℕ) → count k ≤ x → T (opens r (x - count k))
      → T (opens (tree a k r) (suc x))
  unfolding opens
  opens-later a k r x l t = and_T (leb (count k) x) (opens r (x - count k)) (le→leb (count k) x l) t

  pub later-opens : (a : A) (k r : Forest A) (x : ℕ) → T (opens (tree a k r) (suc x))
      → (count k ≤ x) × T (opens r (x - count k))
  unfolding opens
  later-opens a k r x t =
      let w = T_and (leb (count k) x) (opens r (x - count k)) t in (leb→le (count k) x w.0, w.1)

  opens-start : (f : Forest A) → T (opens f 0)
  unfolding opens
  opens-start none = tt
  opens-start (tree a k r) = tt

  opens-end : (f : Forest A) → T (opens f (count f))
  unfolding opens
  opens-end none = tt
  opens-end (tree a k r) =
      let e : count k + count r - count k ≡ count r = omega arith in
      opens-later a k r (count k + count r) (omega arith) (rw e (opens-end r))

  pub opens_most : (f : Forest A) (x : ℕ) → T (opens f x) → x ≤ count f
  unfolding opens
  opens_most none x t = let e = eqb→eq x 0 t in omega arith
  opens_most (tree a k r) zero t = omega arith
  opens_most (tree a k r) (suc x) t =
      let w = later-opens a k r x t in omega (arith, opens_most r (x - count k) w.1, w.0)

  -- a tree starts at row x, or row x lies deeper and its parent is among these rows
  pub data Start (d : ℕ) (f : Forest A) (x : ℕ) : Type 0 where
    root : get_or (dists d f) x 0 ≡ d + x → T (opens f x) → Start d f x
    deeper : 1 ≤ get_or (dists d f) x 0 → get_or (dists d f) x 0 ≤ x → (T (opens f x) → ⊥) → Start d f x

  in_kids : (d : ℕ) (a : A) (k r : Forest A) (x : ℕ) → x < count k → Start 1 k x → Start d (tree a k r) (suc x)
  in_kids d a k r x l (root e t) =
      deeper (omega (arith, e, column-kids 0 dists _ is-dist d a k r x l))
      (omega (arith, e, column-kids 0 dists _ is-dist d a k r x l))
      (λ w. omega (arith, l, (later-opens a k r x w).0))
  in_kids d a k r x l (deeper m n o) =
      deeper (omega (arith, m, column-kids 0 dists _ is-dist d a k r x l))
      (omega (arith, n, column-kids 0 dists _ is-dist d a k r x l))
      (λ w. omega (arith, l, (later-opens a k r x w).0))

  in_rest : (d : ℕ) (a : A) (k r : Forest A) (x : ℕ) → count k ≤ x → Start (d + suc (count k)) r (x - count k)
      → Start d (tree a k r) (suc x)
  in_rest d a k r x l (root e t) =
      root (omega (arith, e, column-rest 0 dists _ is-dist d a k r x l)) (opens-later a k r x l t)
  in_rest d a k r x l (deeper m n o) =
      deeper (omega (arith, m, column-rest 0 dists _ is-dist d a k r x l))
      (omega (arith, n, column-rest 0 dists _ is-dist d a k r x l))
      (λ w. o (later-opens a k r x w).1)

  pub start_of : (d : ℕ) (f : Forest A) (x : ℕ) → 1 ≤ d → x < count f → Start d f x
  unfolding opens
  start_of d none x h l = absurd (omega arith)
  start_of d (tree a k r) zero h l = root (omega arith) tt
  start_of d (tree a k r) (suc x) h l =
      by_side x (count k) (λ m. in_kids d a k r x m (start_of 1 k x (omega arith) m))
      (λ m. in_rest d a k r x m (start_of (d + suc (count k)) r (x - count k) (omega arith) (omega arith)))

  -- ---- no row behind the subtree of q has q for its parent
  bounds : (d : ℕ) (f : Forest A) (x : ℕ) → 1 ≤ d → x < count f → Bounds d x (get_or (dists d f) x 0)
  bounds d f x h l = go (start_of d f x h l)
    where
      go : Start d f x → Bounds d x (get_or (dists d f) x 0)
      go (root e t) = record { some = omega arith; most = omega arith; inner = λ n. absurd (n e) }
      go (deeper m n o) = record { some = m; most = omega arith; inner = λ w. n }

  pub child-within : (d : ℕ) (f : Forest A) (q p : ℕ) → 1 ≤ d → q < count f → p < count f → q + get_or (dists d f) p 0 ≡ p
      → p < q + suc (count (below f q))
  unfolding from
  child-within d none q p h l m e = absurd (omega arith)
  child-within d (tree a k r) q zero h l m e = absurd (omega arith)
  child-within d (tree a k r) zero (suc p) h l m e =
      by_side p (count k) (λ n. omega arith)
      (λ n.
      let v = bounds (d + suc (count k)) r (p - count k) (omega arith) (omega arith) in
      let w = column-rest 0 dists _ is-dist d a k r p n in
      absurd (omega (arith, v.inner (omega arith))))
  child-within d (tree a k r) (suc q) (suc p) h l m e =
      let d' : ℕ = d + suc (count k) in
      let q' : ℕ = q - count k in
      let p' : ℕ = p - count k in
      by_side q (count k)
      (λ i. rw (from-kids a k r q i)
      (by_side p (count k)
      (λ n.
      let w = column-kids 0 dists _ is-dist d a k r p n in
      omega (arith, child-within 1 k q p (omega arith) i n (omega arith)))
      (λ n.
      let v = bounds d' r p' (omega arith) (omega arith) in
      let w = column-rest 0 dists _ is-dist d a k r p n in
      absurd (omega (arith, v.inner (omega arith))))))
      (λ i. rw (from-rest a k r q i)
      (by_side p (count k)
      (λ n.
      let v = bounds 1 k p (omega arith) n in
      let w = column-kids 0 dists _ is-dist d a k r p n in
      absurd (omega arith))
      (λ n.
      let w = column-rest 0 dists _ is-dist d a k r p n in
      omega (arith, child-within d' r q' p' (omega arith) (omega arith) (omega arith) (omega arith)))))

  -- ---- the places of a row q, in the words of the trees below it
  -- row c is a child of q exactly where a tree starts among the rows below q
  child-opens : (f : Forest A) (q y : ℕ) → q < count f → y < count (below f q)
      → T (opens (below f q) y) ↔ (q + get_or (dists 1 f) (suc (q + y)) 0 ≡ suc (q + y))
  child-opens f q y l m = go (start_of 1 (below f q) y (omega arith) m)
    where
      go : Start 1 (below f q) y → T (opens (below f q) y) ↔ (q + get_or (dists 1 f) (suc (q + y)) 0 ≡ suc (q + y))
      go (root e t) = ((λ w. omega (arith, e, dist-below 1 f q y l m)), (λ w. t))
      go (deeper u v o) = ((λ w. absurd (o w)), (λ w. absurd (omega (arith, v, dist-below 1 f q y l m))))

  -- a place is the start, or the end of a tree that starts among these rows
  pub data Ends (f : Forest A) (x : ℕ) : Type 0 where
    at-start : x ≡ 0 → Ends f x
    at-end : (c : ℕ) → c < count f → T (opens f c) → x ≡ c + get_or (sizes f) c 0 → Ends f x

  ends-rest : (a : A) (k r : Forest A) (x : ℕ) → count k ≤ x → Ends r (x - count k) → Ends (tree a k r) (suc x)
  unfolding opens
  ends-rest a k r x l (at-start e) = at-end 0 (omega arith) tt (omega arith)
  ends-rest a k r x l (at-end c m t e) =
      let w : count k + c - count k ≡ c = omega arith in
      let v = column-rest 0 size_column _ is-size 0 a k r (count k + c) (omega arith) in
      at-end (suc (count k + c)) (omega arith) (opens-later a k r (count k + c) (omega arith) (rw w t))
      (omega (arith, v, ap (λ (z : ℕ). get_or (sizes r) z 0) w))

  opens-ends : (f : Forest A) (x : ℕ) → T (opens f x) → Ends f x
  unfolding opens
  opens-ends none x t = at-start (eqb→eq x 0 t)
  opens-ends (tree a k r) zero t = at-start refl
  opens-ends (tree a k r) (suc x) t =
      let w = later-opens a k r x t in ends-rest a k r x w.0 (opens-ends r (x - count k) w.1)

  end-opens : (f : Forest A) (c : ℕ) → c < count f → T (opens f c) → T (opens f (c + get_or (sizes f) c 0))
  end-opens none c l t = absurd (omega arith)
  end-opens (tree a k r) zero l t =
      let e : 0 + suc (count k) ≡ suc (count k) = omega arith in
      let w : count k - count k ≡ 0 = omega arith in
      rw e (opens-later a k r (count k) (omega arith) (rw w (opens-start r)))
  end-opens (tree a k r) (suc c) l t =
      let w = later-opens a k r c t in
      let v = column-rest 0 size_column _ is-size 0 a k r c w.0 in
      let s : ℕ = get_or (sizes r) (c - count k) 0 in
      let e : suc c + get_or (sizes (tree a k r)) (suc c) 0 ≡ suc (c + s) = omega (arith, v) in
      let m : c + s - count k ≡ c - count k + s = omega (arith, w.0) in
      subst (λ (z : ℕ). T (opens (tree a k r) z)) (sym e)
      (opens-later a k r (c + s) (omega (arith, w.0)) (rw m (end-opens r (c - count k) (omega (arith, w.0)) w.1)))

-- ---- the three definitions
module _ {A : Type 0} (f : Forest A) (value : List ℕ) (q : ℕ) (l : q < count f) where
  abbrev t : Table
  t = table (dists 1 f) (sizes f) value

  abbrev k : Forest A
  k = below f q

  -- a child of q is a row below it at which a tree starts
  record Below (c : ℕ) : Type 0 where
    y : ℕ
    is : c ≡ suc (q + y)
    within : y < count k
    starts : T (opens k y)

  child-below : (c : ℕ) → Child t c q → Below c
  child-below c h =
      let n : c < count f = omega (arith, length-sizes f, h.0) in
      let w = child-within 1 f q c (omega arith) l n h.1 in
      let b = bounds 1 f c (omega arith) n in
      let e : c ≡ suc (q + (c - suc q)) = omega (arith, b.some, h.1) in
      let m : c - suc q < count k = omega (arith, w, e) in
      record {
        y = c - suc q;
        is = e;
        within = m;
        starts = (child-opens f q (c - suc q) l m).1 (subst (λ (z : ℕ). q + get_or (dists 1 f) z 0 ≡ z) e h.1);
      }

  below-child : (c : ℕ) → Below c → Child t c q
  below-child c b =
      let e = (child-opens f q b.y l b.within).0 b.starts in
      let n : c < length (sizes f) = omega (arith, b.is, b.within, below_fits f q l, length-sizes f) in
      (n, subst (λ (z : ℕ). q + get_or (dists 1 f) z 0 ≡ z) (sym b.is) e)

  -- p is x rows behind the first row below q
  record Placed (p : ℕ) : Type 0 where
    x : ℕ
    is : p ≡ suc (q + x)
    open_there : T (opens k x)

  placed : (p : ℕ) → T (open_place f p q) → Placed p
  unfolding open_place
  placed p h =
      let w = T_and (ltb q p) (opens k (p - suc q)) h in
      record { x = p - suc q; is = omega (arith, ltb→lt q p w.0); open_there = w.1 }

  unplaced : (p : ℕ) → Placed p → T (open_place f p q)
  unfolding open_place
  unplaced p h =
      let e : p - suc q ≡ h.x = omega (arith, h.is) in
      and_T (ltb q p) (opens k (p - suc q)) (lt→ltb q p (omega (arith, h.is))) (rw e h.open_there)

  to_quick : (p : ℕ) → Placed p → QuickPlace t p q
  to_quick p h =
      by_place h.x (count k)
      (λ m. inr (below-child p (record { y = h.x; is = h.is; within = m; starts = h.open_there })))
      (λ m. inl (omega (arith, h.is, size-at f q l)))
      (λ m. absurd (omega (arith, opens_most k h.x h.open_there)))

  from_quick : (p : ℕ) → QuickPlace t p q → Placed p
  from_quick p (inl e) = record { x = count k; is = omega (arith, size-at f q l); open_there = opens-end k }
  from_quick p (inr c) = let b = child-below p c in record { x = b.y; is = b.is; open_there = b.starts }

  to_open : (p : ℕ) (h : Placed p) → Ends k h.x → OpenPlace t p q
  to_open p h (at-start e) = inl (omega (arith, h.is))
  to_open p h (at-end c m u e) =
      let b = below-child (suc (q + c)) (record { y = c; is = refl; within = m; starts = u }) in
      inr (suc (q + c), b, omega (arith, h.is, size_below f q c l m))

  from_open : (p : ℕ) → OpenPlace t p q → Placed p
  from_open p (inl e) = record { x = 0; is = omega arith; open_there = opens-start k }
  from_open p (inr c) =
      let b = child-below c.0 c.1 in
      let e : size_at t c.0 ≡ get_or (sizes k) b.y 0 =
      ap (λ (z : ℕ). get_or (sizes f) z 0) b.is ∙ size_below f q b.y l b.within in
      record {
        x = b.y + get_or (sizes k) b.y 0;
        is = omega (arith, b.is, e, c.2);
        open_there = end-opens k b.y b.within b.starts;
      }

  -- a child can be put at p under q exactly where p is an open place of q as the paper says
  pub open_exactly : (p : ℕ) → T (open_place f p q) ↔ OpenPlace t p q
  open_exactly p = (
    (λ h. let w = placed p h in to_open p w (opens-ends k w.x w.open_there)),
    (λ h. unplaced p (from_open p h)),
  )

  -- and exactly where the test in constant time says so
  pub quick_exactly : (p : ℕ) → T (open_place f p q) ↔ QuickPlace t p q
  quick_exactly p = ((λ h. to_quick p (placed p h)), (λ h. unplaced p (from_quick p h)))
