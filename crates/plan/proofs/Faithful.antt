-- A change made wherever it belongs is the single change at its row, and each change of a list that fits still has its
-- place when its turn comes. So the pass gives what the list means.
-- Assumes nothing.
use Prim.Native.Nat.{ℕ, zero, suc, ◌+◌, ◌-◌, ◌≤◌}
use native.Mathlib.Omega.{arith}
use mathlib.Core.Path.{◌≡◌, refl, ap, ◌∙◌}
use mathlib.Core.Bool.{Bool, true, false, cond}
use mathlib.Core.List.{List, [], ◌∷◌}
use lib.Dec.{T, ltb}
use borrow.Author.Tests.{eq-eqb, lt-ltb, le-ltb, ltb-true, ltb-false}
use Rattle.plan.specs.Tree.{Forest, none, tree, count, at}
use Rattle.plan.specs.Change.{Act, Change, insert, act, put, acted, joined, single, meaning}
use Rattle.plan.proofs.Kit.{true_of, All}
use Rattle.plan.proofs.Columns.{beside_none}
use Rattle.plan.proofs.Standing.{Side, here, kids, past, by, by_elim, row, mine, side, front, made, all_made, valid, before, told, mine_told, ord}
use Rattle.plan.proofs.Single.{keep, made_insert, made_kids, made_past}
use Rattle.plan.proofs.Cut.{Fit, Kid, Past, Rest, kid, later, Class, top, deep, class, past-past, kid_rest, act-rest, in_kid, in_past}
use Rattle.plan.proofs.Pass.{pass, pass_whole, stay}

module _ {A : Type 0} where
  -- ---- the change of a tree
  act-tree : (b u p x : ℕ) (y : Act A) (a : A) (k r : Forest A) (s : Side) → u ≤ b → p ≡ b + suc x
      → side b u (suc b + count k) (act p y) ≡ s
      → (c : Bool) → ltb x (count k) ≡ c
      → made (suc b) (suc b) (act p y) k ≡ at (acted y) k x
      → (count k ≤ x → made (suc b + count k) u (act p y) r ≡ at (acted y) r (x - count k))
      → by s (front (act p y) (tree a k r)) (tree a (made (suc b) (suc b) (act p y) k) r)
      (tree a k (made (suc b + count k) u (act p y) r))
      ≡ cond c (tree a (at (acted y) k x) r) (tree a k (at (acted y) r (x - count k)))
  act-tree b u p x y a k r here h w m c n f g =
      let t = told b u (suc b + count k) (act p y) here h m in absurd (omega arith)
  act-tree b u p x y a k r kids h w m true n f g = rw f
  act-tree b u p x y a k r kids h w m false n f g =
      let t = told b u (suc b + count k) (act p y) kids h m in absurd (omega (arith, ltb-false x (count k) n))
  act-tree b u p x y a k r past h w m true n f g =
      absurd (omega (arith, ltb-true x (count k) n, told b u (suc b + count k) (act p y) past h m (omega arith)))
  act-tree b u p x y a k r past h w m false n f g = rw (g (ltb-false x (count k) n))

  act-at : (b u p x : ℕ) (y : Act A) (f : Forest A) → u ≤ b → p ≡ b + x → made b u (act p y) f ≡ at (acted y) f x
  unfolding made at
  act-at b u p x y none h w =
      by_elim (λ (g : Forest A). g ≡ none) (side b u b (act p y)) none none none (λ m. refl) (λ m. refl) (λ m. refl)
  act-at b u p zero y (tree a k r) h w = rw (eq-eqb p b (omega arith))
  act-at b u p (suc x) y (tree a k r) h w =
      act-tree b u p x y a k r (side b u (suc b + count k) (act p y)) h w refl (ltb x (count k)) refl
      (act-at (suc b) (suc b) p x y k (omega arith) (omega arith))
      (λ l. act-at (suc b + count k) u p (x - count k) y r (omega arith) (omega arith))

  -- ---- an insert, among the children of the row that it names
  put-tree : (b u p q x : ℕ) (s : Forest A) (a : A) (k r : Forest A) → u ≤ b → suc q ≡ u → p ≡ b + suc x
      → Class b u k r (insert p q s)
      → (count k ≤ x → T (valid (suc b + count k) u r (insert p q s))
      → made (suc b + count k) u (insert p q s) r ≡ put s r (x - count k))
      → made b u (insert p q s) (tree a k r) ≡ tree a k (put s r (x - count k))
  put-tree b u p q x s a k r h w m (top v) g =
      let t = mine_told b u b (insert p q s) h v in absurd (omega arith)
  put-tree b u p q x s a k r h w m (deep (kid v)) g =
      let t = told b u (suc b + count k) (insert p q s) kids h v.0 in absurd (omega arith)
  put-tree b u p q x s a k r h w m (deep (later v)) g =
      let i = in_past b u k r h (insert p q s) v in
      made_past b u (insert p q s) a k r v.0 ∙ ap (tree a k) (g (omega arith) v.1)

  insert-put : (b u p q x : ℕ) (s f : Forest A) → u ≤ b → suc q ≡ u → p ≡ b + x → T (valid b u f (insert p q s))
      → made b u (insert p q s) f ≡ put s f x
  unfolding put valid
  insert-put b u p q x s none h w m v =
      made_insert b u p q s none (true_of (mine b u (insert p q s)) v) ∙ beside_none s
  insert-put b u p q zero s (tree a k r) h w m v =
      made_insert b u p q s (tree a k r) (rw (eq-eqb p b (omega arith), eq-eqb (suc q) u w))
  insert-put b u p q (suc x) s (tree a k r) h w m v =
      put-tree b u p q x s a k r h w m (class b u k r a (insert p q s) v)
      (λ l z. insert-put (suc b + count k) u p q (x - count k) s r (omega arith) w (omega arith) z)

  joined-here : (b u p q : ℕ) (s : Forest A) (a : A) (k r : Forest A) → u ≤ b → q ≡ b → Class b u k r (insert p q s)
      → made b u (insert p q s) (tree a k r) ≡ tree a (put s k (p - suc q)) r
  joined-here b u p q s a k r h w (top v) = let t = mine_told b u b (insert p q s) h v in absurd (omega arith)
  joined-here b u p q s a k r h w (deep (kid v)) =
      let i = in_kid b u k r h (insert p q s) v in
      let n = insert-put (suc b) (suc b) p q (p - suc q) s k (omega arith) (omega arith) (omega arith) v.1 in
      made_kids b u (insert p q s) a k r v.0 ∙ ap (λ (g : Forest A). tree a g r) n
  joined-here b u p q s a k r h w (deep (later v)) =
      absurd (omega (arith, told b u (suc b + count k) (insert p q s) past h v.0 (omega arith)))

  joined_deeper : (b u p q x : ℕ) (s : Forest A) (a : A) (k r : Forest A) → u ≤ b → q ≡ b + suc x
      → Class b u k r (insert p q s)
      → (T (valid (suc b) (suc b) k (insert p q s))
      → made (suc b) (suc b) (insert p q s) k ≡ at (joined (p - suc q) s) k x)
      → (count k ≤ x → T (valid (suc b + count k) u r (insert p q s))
      → made (suc b + count k) u (insert p q s) r ≡ at (joined (p - suc q) s) r (x - count k))
      → made b u (insert p q s) (tree a k r)
      ≡ cond (ltb x (count k)) (tree a (at (joined (p - suc q) s) k x) r)
      (tree a k (at (joined (p - suc q) s) r (x - count k)))
  joined_deeper b u p q x s a k r h w (top v) f g =
      let t = mine_told b u b (insert p q s) h v in absurd (omega arith)
  joined_deeper b u p q x s a k r h w (deep (kid v)) f g =
      let t = told b u (suc b + count k) (insert p q s) kids h v.0 in
      rw (lt-ltb x (count k) (omega arith), ← f v.1) (made_kids b u (insert p q s) a k r v.0)
  joined_deeper b u p q x s a k r h w (deep (later v)) f g =
      let l : count k ≤ x = omega (arith, told b u (suc b + count k) (insert p q s) past h v.0 (omega arith)) in
      rw (le-ltb x (count k) l, ← g l v.1) (made_past b u (insert p q s) a k r v.0)

  insert-at : (b u p q x : ℕ) (s f : Forest A) → u ≤ b → q ≡ b + x → T (valid b u f (insert p q s))
      → made b u (insert p q s) f ≡ at (joined (p - suc q) s) f x
  unfolding at valid
  insert-at b u p q x s none h w v = let t = mine_told b u b (insert p q s) h v in absurd (omega arith)
  insert-at b u p q zero s (tree a k r) h w v =
      joined-here b u p q s a k r h (omega arith) (class b u k r a (insert p q s) v)
  insert-at b u p q (suc x) s (tree a k r) h w v =
      joined_deeper b u p q x s a k r h w (class b u k r a (insert p q s) v)
      (insert-at (suc b) (suc b) p q x s k (omega arith) (omega arith))
      (λ l. insert-at (suc b + count k) u p q (x - count k) s r (omega arith) (omega arith))

  pub made_single : (t : Forest A) (c : Change A) → T (valid 0 0 t c) → made 0 0 c t ≡ single c t
  made_single t (insert p q s) v = insert-at 0 0 p q q s t (omega arith) (omega arith) v
  made_single t (act p x) v = act-at 0 0 p p x t (omega arith) (omega arith)

  -- ---- a change keeps its place while later ones are made
  pub insert_valid : (b u p q : ℕ) (s f : Forest A) → T (mine b u (insert p q s)) → T (valid b u f (insert p q s))
  unfolding valid
  insert_valid b u p q s none m = m
  insert_valid b u p q s (tree a k r) m = rw (true_of (mine b u (insert p q s)) m) tt

  pub act_valid : (b u p : ℕ) (x : Act A) (a : A) (k r : Forest A) → T (mine b u (act p x))
      → T (valid b u (tree a k r) (act p x))
  unfolding valid
  act_valid b u p x a k r m = rw (true_of (mine b u (act p x)) m) tt

  pub kid_valid : (b u : ℕ) (c : Change A) (a : A) (k r : Forest A) → side b u (suc b + count k) c ≡ kids
      → T (valid (suc b) (suc b) k c) → T (valid b u (tree a k r) c)
  unfolding valid
  kid_valid b u c a k r w v = rw w v

  pub past_valid : (b u : ℕ) (c : Change A) (a : A) (k r : Forest A) → side b u (suc b + count k) c ≡ past
      → T (valid (suc b + count k) u r c) → T (valid b u (tree a k r) c)
  unfolding valid
  past_valid b u c a k r w v = rw w v

  module _ (b u : ℕ) (h : u ≤ b) (a : A) (k r : Forest A) where
    -- c has its place when d has been made
    Stays : Change A → Change A → Type 0
    Stays c d = T (valid b u (made b u d (tree a k r)) c)

    by_kid : (c d : Change A) → Kid b u k r d → T (valid b u (tree a (made (suc b) (suc b) d k) r) c) → Stays c d
    unfolding Stays
    by_kid c d w v = rw (made_kids b u d a k r w.0) v

    by_past : (c d : Change A) → Past b u k r d → T (valid b u (tree a k (made (suc b + count k) u d r)) c) → Stays c d
    unfolding Stays
    by_past c d w v = rw (made_past b u d a k r w.0) v

    act_stays : (p : ℕ) (x : Act A) (d : Change A) → T (mine b u (act p x)) → Rest b u k r d → Stays (act p x) d
    act_stays p x d m (kid w) = by_kid (act p x) d w (act_valid b u p x a (made (suc b) (suc b) d k) r m)
    act_stays p x d m (later w) = by_past (act p x) d w (act_valid b u p x a k (made (suc b + count k) u d r) m)

    kid_stays : (c d : Change A) → Kid b u k r c → T (before c d)
        → (T (valid (suc b) (suc b) k d) → T (valid (suc b) (suc b) (made (suc b) (suc b) d k) c))
        → Rest b u k r d → Stays c d
    kid_stays c d v t f (kid w) =
        let i = in_kid b u k r h c v in
        let g : Forest A = made (suc b) (suc b) d k in
        let n = keep (suc (row c)) (suc b) (suc b) d k (omega arith) (ord c d i.3 t).1 (omega arith) in
        by_kid c d w (kid_valid b u c a g r (stay b u h k r c (suc b + count g) v n) (f w.1))
    kid_stays c d v t f (later w) = by_past c d w (kid_valid b u c a k (made (suc b + count k) u d r) v.0 v.1)

    stays : (c d : Change A) → Class b u k r c → T (before c d) → Class b u k r d
        → (T (valid (suc b) (suc b) k c) → T (valid (suc b) (suc b) k d)
        → T (valid (suc b) (suc b) (made (suc b) (suc b) d k) c))
        → (T (valid (suc b + count k) u r c) → T (valid (suc b + count k) u r d)
        → T (valid (suc b + count k) u (made (suc b + count k) u d r) c))
        → Stays c d
    unfolding Stays
    stays (insert p q s) d (top m) t w f g = insert_valid b u p q s (made b u d (tree a k r)) m
    stays (act p x) d (top m) t w f g = act_stays p x d m (act-rest b u k r h p x d m t w)
    stays c d (deep (kid v)) t w f g = kid_stays c d v t (f v.1) (kid_rest b u k r h c d v t w)
    stays c d (deep (later v)) t w f g =
        let z = past-past b u k r h c d v t w in
        by_past c d z (past_valid b u c a k (made (suc b + count k) u d r) v.0 (g v.1 z.1))

  still : (b u : ℕ) (f : Forest A) (c d : Change A) → u ≤ b → T (before c d)
      → T (valid b u f c) → T (valid b u f d) → T (valid b u (made b u d f) c)
  unfolding valid Stays
  still b u none (insert p q s) d h t v w = insert_valid b u p q s (made b u d none) v
  still b u none (act p x) d h t v w = absurd v
  still b u (tree a k r) c d h t v w =
      stays b u h a k r c d (class b u k r a c v) t (class b u k r a d w) (still (suc b) (suc b) k c d (omega arith) t)
      (still (suc b + count k) u r c d (omega arith) t)

  -- what may stand before a list has its place when the list is made
  pub still_all : (b u : ℕ) (f : Forest A) (c : Change A) (cs : List (Change A)) → u ≤ b → T (valid b u f c)
      → All (λ d. T (before c d)) cs → Fit b u f cs → T (valid b u (all_made b u cs f) c)
  still_all b u f c [] h v o w = v
  still_all b u f c (d ∷ cs) h v o w =
      let fits : Fit b u f cs = (w.0.1, w.1.1) in
      still b u (all_made b u cs f) c d h o.0 (still_all b u f c cs h v o.1 fits)
      (still_all b u f d cs h w.0.0 w.1.0 fits)

  pub made_meaning : (t : Forest A) (cs : List (Change A)) → Fit 0 0 t cs → all_made 0 0 cs t ≡ meaning cs t
  made_meaning t [] w = refl
  made_meaning t (c ∷ cs) w =
      let fits : Fit 0 0 t cs = (w.0.1, w.1.1) in
      made_single (all_made 0 0 cs t) c (still_all 0 0 t c cs (omega arith) w.0.0 w.1.0 fits)
      ∙ ap (single c) (made_meaning t cs fits)

  pub pass_meaning : (t : Forest A) (cs : List (Change A)) → Fit 0 0 t cs → pass 0 0 t cs ≡ (meaning cs t, [])
  pass_meaning t cs w = rw (← made_meaning t cs w) (pass_whole t cs w)
