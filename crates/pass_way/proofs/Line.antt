-- The line of open rows: from one to the row above, to the next row under it, and past it.
-- Assumes nothing.
use Prim.Native.Nat.{ℕ, suc, ◌+◌, ◌-◌, ◌≤◌, ◌<◌}
use native.Mathlib.Omega.{arith}
use mathlib.Core.Path.{◌≡◌, refl, ◌∙◌}
use lib.ListN.{length}
use Rattle.plan.specs.Tree.{Forest, none, tree, count}
use Rattle.plan.specs.Table.{Table, TreeOf}
use Rattle.plan.specs.Open.{dist_at, size_at}
use Rattle.plan.proofs.Kit.{by_place, by_side}
use Rattle.pass_way.specs.Line.{Old, Line, base, down}
use Rattle.pass_way.proofs.MachineForest.{old-kids, old-rest, old-dist, old-size}
use Rattle.pass_moves.proofs.Rows.{tall_tree}
use Rattle.pass_way.proofs.MachineTable.{root-size, old-kids_of}

module _ (t u : Table) where
  -- the row above
  pub record Up (i q j : ℕ) : Type 0 where
    pub dist : dist_at t q ≤ q
    pub lower : q - dist_at t q < q
    pub dist-new : dist_at u j ≤ j
    pub lower_new : j - dist_at u j < j
    pub rest : Forest ℕ
    pub line : Line t u i (q - dist_at t q) (j - dist_at u j) rest

  -- there is a row to go on with
  pub record Child (i q j : ℕ) : Type 0 where
    pub value : ℕ
    pub kids : Forest ℕ
    pub rest : Forest ℕ
    pub line : Line t u i q j (tree value kids rest)
    pub size : size_at t i ≡ suc (count kids)
    pub dist : dist_at t i ≡ i - q

module _ {t u : Table} where
  pub line-old : {i q j : ℕ} {f : Forest ℕ} → Line t u i q j f → Old t i q f
  line-old (base z h e) = h
  line-old (down l z h e n d) = h

  pub line-below : {i q j : ℕ} {f : Forest ℕ} → Line t u i q j f → q < i
  line-below (base z h e) = z
  line-below (down l z h e n d) = z

  pub line-root : {i q j : ℕ} {f : Forest ℕ} → Line t u i q j f → q ≡ 0 → j ≡ 0
  line-root (base z h e) w = refl
  line-root (down l z h e n d) w = absurd (omega (arith, line-below l))

  pub line-end : {i q j : ℕ} {f : Forest ℕ} → Line t u i q j f → i + count f ≤ length t.size
  line-end (base z h e) = omega arith
  line-end (down l z h e n d) = omega (arith, line-end l)

  pub line-room : {i q j : ℕ} {f : Forest ℕ} → TreeOf t → Line t u i q j f → i + count f ≡ q + size_at t q
  line-room s (base z h e) = omega (arith, root-size s)
  line-room s (down {b = b} {q = q} {a = a} {k = k} {r = r} l z h e n d) =
      omega (arith, old-size t b q a k r (line-old l))

  -- ---- how the line goes on
  pub line-next : {b q j a : ℕ} {k r : Forest ℕ} → Line t u b q j (tree a k r) → Line t u (suc b + count k) q j r
  line-next {b = b} {a = a} {k = k} {r = r} (base z h e) =
      base {i = suc b + count k} (omega arith) (old-rest t b 0 a k r (omega arith) h) (omega arith)
  line-next {b = b} {q = q} {a = a} {k = k} {r = r} (down l z h e n d) =
      down {i = suc b + count k} l (omega arith) (old-rest t b q a k r (omega arith) h) (omega arith) n d

  pub line_open : {b q j a m : ℕ} {k r : Forest ℕ} → Line t u b q j (tree a k r) → j < m → dist_at u m ≡ m - j
      → Line t u (suc b) b m k
  line_open {b = b} {q = q} {a = a} {k = k} {r = r} l n d =
      down {i = suc b} l (omega arith) (old-kids t b q a k r (line-old l)) refl n d

  pub line_same : {i q j : ℕ} {f : Forest ℕ} (u' : Table) → ((z : ℕ) → z ≤ j → dist_at u' z ≡ dist_at u z)
      → Line t u i q j f → Line t u' i q j f
  line_same u' w (base z h e) = base z h e
  line_same u' w (down {m = m} l z h e n d) =
      down (line_same u' (λ x y. w x (omega arith)) l) z h e n (w m (omega arith) ∙ d)

  pub line_at : {i q j i' q' j' : ℕ} {f : Forest ℕ} → i ≡ i' → q ≡ q' → j ≡ j' → Line t u i' q' j' f → Line t u i q j f
  line_at e v w l = rw (e, v, w) l

  pub line_up : {i q j : ℕ} {f : Forest ℕ} → Line t u i q j f → count f ≡ 0 → (q ≡ 0 → ⊥) → Up t u i q j
  line_up (base z h e) n v = absurd (v refl)
  line_up {j = m} (down {b = b} {q = q} {j = j} {a = a} {k = k} {r = r} l z h e n d) w v =
      let y = line-below l in
      let s = old-dist t b q a k r (line-old l) in
      record {
        dist = omega arith;
        lower = omega arith;
        dist-new = omega arith;
        lower_new = omega arith;
        rest = r;
        line = line_at (omega arith) (omega arith) (omega arith) (line-next l);
      }

  pub line-child : {i q j : ℕ} {f : Forest ℕ} → TreeOf t → Line t u i q j f → (i ≡ q + size_at t q → ⊥) → Child t u i q j
  line-child {f = none} s l v = absurd (v (omega (arith, line-room s l)))
  line-child {i = i} {q = q} {f = tree a k r} s l v =
      record {
        value = a;
        kids = k;
        rest = r;
        line = l;
        size = old-size t i q a k r (line-old l);
        dist = old-dist t i q a k r (line-old l);
      }

-- ---- the row behind a tree hangs on the tree's parent or further up
record Above (t : Table) (e q : ℕ) : Type 0 where
  q' : ℕ
  up : q' ≤ q
  dist : dist_at t e ≡ e - q'

module _ {t u : Table} where
  above_rest : {b q j a : ℕ} (k r : Forest ℕ) → Line t u b q j (tree a k r) → (e : ℕ) → e ≡ suc b + count k
      → (count r ≡ 0 → Above t e q) → Above t e q
  above_rest {b = b} {q = q} k (tree a' k' r') l e w f =
      let d = old-dist t (suc b + count k) q a' k' r' (line-old (line-next l)) in
      record { q' = q; up = omega arith; dist = rw w d }
  above_rest k none l e w f = f refl

  above : {b q j a : ℕ} {k r : Forest ℕ} → Line t u b q j (tree a k r) → (e : ℕ) → e ≡ suc b + count k
      → e < length t.size → Above t e q
  above {k = k} {r = r} (base y h m) e w z = above_rest k r (base y h m) e w (λ x. absurd (omega arith))
  above {k = k} {r = r} (down l y h m n d) e w z =
      above_rest k r (down l y h m n d) e w
      (λ x.
      let v = above l e (omega arith) z in
      record { q' = v.q'; up = omega (arith, v.up, line-below l); dist = v.dist })

  none_left : {i q j : ℕ} {f : Forest ℕ} → Line t u i q j f → count f ≡ 0 → i ≡ q + dist_at t i
      → i < length t.size → ⊥
  none_left (base y h m) z e l = omega arith
  none_left {i = i} (down x y h m n d) z e l =
      let v = above x i (omega arith) l in omega (arith, v.up, v.dist, line-below x)

  -- a row whose distance leads to the open row is a child of it
  pub not_end : {i q j : ℕ} {f : Forest ℕ} → TreeOf t → Line t u i q j f → i ≡ q + dist_at t i → i < length t.size
      → i ≡ q + size_at t q → ⊥
  not_end s h e l w = none_left h (omega (arith, line-room s h)) e l

-- ---- every row but the root has a parent before it
dist_in : (t : Table) (b q p : ℕ) (f : Forest ℕ) → q < b → Old t b q f → b ≤ p → p < b + count f → dist_at t p ≤ p
dist_in t b q p none l h m n = absurd (omega arith)
dist_in t b q p (tree a k r) l h m n =
    let e : ℕ = suc b + count k in
    by_place p b (λ i. absurd (omega arith)) (λ i. rw i (omega (arith, old-dist t b q a k r h)))
    (λ i.
    by_side p e (λ j. dist_in t (suc b) b p k (omega arith) (old-kids t b q a k r h) i (omega arith))
    (λ j. dist_in t e q p r (omega arith) (old-rest t b q a k r (omega arith) h) j (omega arith)))

pub dist_most : {t : Table} (p : ℕ) → TreeOf t → 0 < p → p < length t.size → dist_at t p ≤ p
dist_most {t} p s h l =
    dist_in t 1 0 p s.kids (omega arith) (old-kids_of s) (omega arith) (omega (arith, (tall_tree s).size))
