-- The kept changes, found from left to right: of a list that fits, it is enough to remember the rows that the last kept
-- delete or replace took away.
-- Assumes nothing.
use Prim.Native.Nat.{ℕ, suc, ◌+◌, ◌≤◌}
use native.Mathlib.Omega.{arith}
use mathlib.Core.Path.{◌≡◌, refl, sym, ap, ◌∙◌, subst}
use mathlib.Core.Bool.{Bool, true, false, cond}
use mathlib.Core.List.{List, [], ◌∷◌, ◌++◌}
use lib.Dec.{T, leb, ltb, eqb→eq}
use lib.ListN.{get_or}
use borrow.Author.Tests.{le-ltb}
use Rattle.plan.specs.Tree.{Forest, none, tree, count, sizes}
use Rattle.plan.specs.Change.{Act, delete, rename, replace, Change, insert, act, removes, lost, kept}
use Rattle.plan.proofs.Kit.{and_false, cond_elim, All, all_map}
use Rattle.plan.proofs.Standing.{sort_kids, mine, valid}
use Rattle.plan.proofs.Cut.{Sorted, Fit, end, Kid, Past, cut, Shape, plain, acts, inserts, shape_of}
use Rattle.plan.proofs.Kept.{Rows, kid_rows, rest-rows, kept-insert, kids-kept, kept-parts, kept_own, past_free, vain-past, own_end}

module _ {A : Type 0} (t : Forest A) where
  -- the rows that a change takes away, from and up to; none are 0 and 0
  abbrev pub gone-from : Change A → ℕ
  gone-from (insert p q s) = 0
  gone-from (act p x) = cond (removes x) p 0

  abbrev pub gone_to : Change A → ℕ
  gone_to (insert p q s) = 0
  gone_to (act p x) = cond (removes x) (p + get_or (sizes t) p 0) 0

  -- the changes that are not lost, where the rows from a up to b are gone
  unfoldable pub trimmed : (a b : ℕ) → List (Change A) → List (Change A)
  trimmed a b [] = []
  trimmed a b (c ∷ cs) = cond (lost a b c) (trimmed a b cs) (c ∷ trimmed (gone-from c) (gone_to c) cs)

  none-lost : (c : Change A) → lost 0 0 c ≡ false
  none-lost (insert p q s) = and_false (leb 0 q) (le-ltb q 0 (omega arith))
  none-lost (act p x) = and_false (ltb 0 p) (le-ltb p 0 (omega arith))

  pub all_trimmed : (P : Change A → Type 0) (a b : ℕ) (cs : List (Change A)) → All P cs → All P (trimmed a b cs)
  unfolding trimmed
  all_trimmed P a b [] v = tt
  all_trimmed P a b (c ∷ cs) v =
      cond_elim (All P) (lost a b c) _ _ (λ e. all_trimmed P a b cs v.1)
      (λ e. (v.0, all_trimmed P (gone-from c) (gone_to c) cs v.1))

  Unlost : (a b : ℕ) → Change A → Type 0
  Unlost a b d = lost a b d ≡ false

  trimmed_fresh : (a b : ℕ) (cs : List (Change A)) → All (Unlost a b) cs → trimmed a b cs ≡ trimmed 0 0 cs
  unfolding trimmed Unlost
  trimmed_fresh a b [] v = refl
  trimmed_fresh a b (c ∷ cs) v = rw (v.0, none-lost c)

  trimmed_lost : (a b : ℕ) (xs ys : List (Change A)) → All (λ c. lost a b c ≡ true) xs
      → trimmed a b (xs ++ ys) ≡ trimmed a b ys
  unfolding trimmed
  trimmed_lost a b [] ys v = refl
  trimmed_lost a b (x ∷ xs) ys v = rw v.0 (trimmed_lost a b xs ys v.1)

  -- what is gone by c makes nothing of ys vain
  Apart : List (Change A) → Change A → Type 0
  Apart ys c = All (Unlost (gone-from c) (gone_to c)) ys

  trimmed_append : (a b : ℕ) (xs ys : List (Change A)) → All (Unlost a b) ys → All (Apart ys) xs
      → trimmed a b (xs ++ ys) ≡ trimmed a b xs ++ trimmed 0 0 ys
  unfolding trimmed Apart
  trimmed_append a b [] ys v w = trimmed_fresh a b ys v
  trimmed_append a b (x ∷ xs) ys v w =
      rw (trimmed_append a b xs ys v w.1, trimmed_append (gone-from x) (gone_to x) xs ys w.0 w.1)
      (push (lost a b x) x (trimmed a b xs) (trimmed (gone-from x) (gone_to x) xs) (trimmed 0 0 ys))
    where
      push : (m : Bool) (x : Change A) (ks ls ms : List (Change A))
          → cond m (ks ++ ms) (x ∷ ls ++ ms) ≡ cond m ks (x ∷ ls) ++ ms
      push true x ks ls ms = refl
      push false x ks ls ms = refl

  Same : (b u : ℕ) → Forest A → Type 0
  Same b u f = (cs : List (Change A)) → Fit b u f cs → trimmed 0 0 cs ≡ kept t [] cs

  first-insert : (p q : ℕ) (s : Forest A) (cs : List (Change A)) → trimmed 0 0 cs ≡ kept t [] cs
      → trimmed 0 0 (insert p q s ∷ cs) ≡ kept t [] (insert p q s ∷ cs)
  unfolding trimmed
  first-insert p q s cs e = rw (none-lost (insert p q s), e, kept-insert t p q s cs)

  same_none : (b u : ℕ) → Same b u none
  unfolding Same kept valid trimmed
  same_none b u [] v = refl
  same_none b u (act p x ∷ cs) v = absurd v.0.0
  same_none b u (insert p q s ∷ cs) v = first-insert p q s cs (same_none b u cs (v.0.1, v.1.1))

  module _ (b u : ℕ) (h : u ≤ b) (a : A) (k r : Forest A) (rows : Rows t b (tree a k r))
      (sk : Same (suc b) (suc b) k) (sr : Same (suc b + count k) u r) where
    abbrev e : ℕ
    e = end b u k r

    module _ (K R : List (Change A)) (vk : All (Kid b u k r) K) (ok : Sorted K)
        (vr : All (Past b u k r) R) (or : Sorted R) where
      kids-same : trimmed 0 0 K ≡ kept t [] K
      unfolding Same
      kids-same = sk K (all_map (Kid b u k r) (λ c. T (valid (suc b) (suc b) k c)) (λ c y. y.1) K vk, ok)

      rest-same : trimmed 0 0 R ≡ kept t [] R
      unfolding Same
      rest-same = sr R (all_map (Past b u k r) (λ c. T (valid e u r c)) (λ c y. y.1) R vr, or)

      fresh_rest : All (Unlost 0 0) R
      unfolding Unlost
      fresh_rest = all_map (Past b u k r) (Unlost 0 0) (λ c y. none-lost c) R vr

      kid_apart : (c : Change A) → Kid b u k r c → Apart R c
      unfolding Apart Unlost
      kid_apart (insert p q s) v = fresh_rest
      kid_apart (act p delete) v =
          all_map (Past b u k r) (Unlost p (p + get_or (sizes t) p 0))
          (λ d y. vain-past t b u h a k r rows (act p delete) d v y) R vr
      kid_apart (act p (rename g)) v = fresh_rest
      kid_apart (act p (replace s)) v =
          all_map (Past b u k r) (Unlost p (p + get_or (sizes t) p 0))
          (λ d y. vain-past t b u h a k r rows (act p (replace s)) d v y) R vr

      both_same : trimmed 0 0 (K ++ R) ≡ kept t [] K ++ kept t [] R
      both_same =
          rw (← kids-same, ← rest-same)
          (trimmed_append 0 0 K R fresh_rest (all_map (Kid b u k r) (Apart R) kid_apart K vk))

      plain-same : trimmed 0 0 (K ++ R) ≡ kept t [] (K ++ R)
      plain-same = both_same ∙ sym (kept-parts t b u h a k r rows K R vk vr)

      -- behind the tree's own delete or replace
      gone_same : (p : ℕ) → p ≡ b → trimmed p (p + get_or (sizes t) p 0) (K ++ R) ≡ kept t [] R
      unfolding Unlost
      gone_same p w =
          let m : p + get_or (sizes t) p 0 ≡ e = own_end t b u h a k r rows p w in
          let all-lost : All (λ c. lost b e c ≡ true) K =
          all_map (Kid b u k r) (λ c. lost b e c ≡ true) (λ c y. (sort_kids (mine b u c) (lost b e c) y.0).1) K vk in
          let none_of : All (Unlost b e) R =
          all_map (Past b u k r) (Unlost b e)
          (λ c y. past_free t b u h a k r rows c b e y (omega arith) (omega arith)) R vr in
          rw (m, w) (trimmed_lost b e K R all-lost ∙ (trimmed_fresh b e R none_of ∙ rest-same))

      behind_own : (p : ℕ) (x : Act A) → p ≡ b
          → trimmed (gone-from (act p x)) (gone_to (act p x)) (K ++ R)
          ≡ kids-kept t b u h a k r rows K R vk vr x ++ kept t [] R
      behind_own p delete w = gone_same p w
      behind_own p (rename g) w = both_same
      behind_own p (replace s) w = gone_same p w

      own_same : (p : ℕ) (x : Act A) → p ≡ b → trimmed 0 0 (act p x ∷ K ++ R) ≡ kept t [] (act p x ∷ K ++ R)
      unfolding trimmed
      own_same p x w = rw (none-lost (act p x), behind_own p x w, kept_own t b u h a k r rows K R vk vr p x w)

    shape_same : {cs : List (Change A)} → Shape b u k r h cs → trimmed 0 0 cs ≡ kept t [] cs
    shape_same (plain cs v o) =
        let q = cut b u k r h cs v o in
        subst (λ (l : List (Change A)). trimmed 0 0 l ≡ kept t [] l) (sym q.whole)
        (plain-same q.K q.R q.kids_k q.sorted_k q.past_r q.sorted_r)
    shape_same (acts p x cs m v o) =
        let q = cut b u k r h cs v o in
        subst (λ (l : List (Change A)). trimmed 0 0 (act p x ∷ l) ≡ kept t [] (act p x ∷ l)) (sym q.whole)
        (own_same q.K q.R q.kids_k q.sorted_k q.past_r q.sorted_r p x (eqb→eq p b m))
    shape_same (inserts p q s cs m y) = first-insert p q s cs (shape_same y)

  same : (b u : ℕ) (f : Forest A) → u ≤ b → Rows t b f → Same b u f
  unfolding Same
  same b u none h w cs v = same_none b u cs v
  same b u (tree a k r) h w cs v =
      shape_same b u h a k r w (same (suc b) (suc b) k (omega arith) (kid_rows t b a k r w))
      (same (suc b + count k) u r (omega arith) (rest-rows t b a k r w)) (shape_of b u k r h a cs v)

  -- the kept changes are those that are not lost with what the last of them took away
  pub trimmed_kept : (cs : List (Change A)) → Fit 0 0 t cs → trimmed 0 0 cs ≡ kept t [] cs
  unfolding Same
  trimmed_kept cs v = same 0 0 t (omega arith) (λ x l. ap (λ (y : ℕ). get_or (sizes t) y 0) (omega arith)) cs v
