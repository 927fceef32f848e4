-- What is vain may be dropped: the kept changes of a list that fits mean what the whole list means.
-- A delete or replace takes what was made of the children with it, so the changes among them don't count.
-- Assumes nothing.
use Prim.Native.Nat.{ℕ, suc, ◌+◌, ◌-◌, ◌≤◌, ◌<◌}
use native.Mathlib.Omega.{arith}
use mathlib.Core.Path.{◌≡◌, refl, sym, ap, ◌∙◌, subst}
use mathlib.Core.Bool.{Bool, true, false, cond}
use mathlib.Core.List.{List, [], ◌∷◌, ◌++◌}
use lib.Dec.{T, eqb→eq}
use lib.ListN.{get_or}
use Rattle.plan.specs.Tree.{Forest, none, tree, count, sizes}
use Rattle.plan.specs.Change.{Act, delete, rename, replace, Change, insert, act, instead, meaning, removes, lost, vain, vain_by, kept}
use Rattle.plan.proofs.Kit.{and_false, or_true, true_of, false_of, cond_elim, All, all_map}
use Rattle.plan.proofs.Standing.{past, sort_kids, mine, made, all_made, valid, before, told, lost-told}
use Rattle.plan.proofs.Single.{made_act}
use Rattle.plan.proofs.Cut.{Sorted, Fit, end, Kid, Past, cut, Shape, plain, acts, inserts, shape_of, in_kid}
use Rattle.plan.proofs.Pass.{made_rest, made_both}
use Rattle.plan.proofs.Faithful.{made_meaning}
use Rattle.plan.proofs.Rows.{below_fits, size-at, column-kids, column-rest, is-size, size_column}

module _ {A : Type 0} (t : Forest A) where
  -- ---- lists of kept changes
  -- xs, one after another in front of what was seen
  abbrev onto : List (Change A) → List (Change A) → List (Change A)
  onto seen [] = seen
  onto seen (x ∷ xs) = onto (x ∷ seen) xs

  abbrev Free : List (Change A) → Change A → Type 0
  Free seen d = vain_by t seen d ≡ false

  kept_append : (seen xs ys : List (Change A)) → kept t seen (xs ++ ys) ≡ kept t seen xs ++ kept t (onto seen xs) ys
  unfolding kept
  kept_append seen [] ys = refl
  kept_append seen (x ∷ xs) ys = rw (kept_append (x ∷ seen) xs ys) (push (vain_by t seen x) x (kept t (x ∷ seen) xs) _)
    where
      push : (m : Bool) (x : Change A) (ks ls : List (Change A))
          → cond m (ks ++ ls) (x ∷ ks ++ ls) ≡ cond m ks (x ∷ ks) ++ ls
      push true x ks ls = refl
      push false x ks ls = refl

  free_onto : (seen xs : List (Change A)) (d : Change A) → Free seen d → All (λ x. vain t x d ≡ false) xs
      → Free (onto seen xs) d
  free_onto seen [] d h v = h
  free_onto seen (x ∷ xs) d h v = free_onto (x ∷ seen) xs d (rw v.0 h) v.1

  vain_by-append : (m seen : List (Change A)) (d : Change A) → Free seen d → vain_by t (m ++ seen) d ≡ vain_by t m d
  vain_by-append [] seen d h = h
  vain_by-append (x ∷ m) seen d h = rw (vain_by-append m seen d h)

  -- what makes none of them vain can be forgotten
  forget : (m seen ys : List (Change A)) → All (Free seen) ys → kept t (m ++ seen) ys ≡ kept t m ys
  unfolding kept
  forget m seen [] v = refl
  forget m seen (y ∷ ys) v = rw (vain_by-append m seen y v.0, forget (y ∷ m) seen ys v.1)

  -- what is all vain leaves nothing
  all_vain : (seen xs : List (Change A)) → All (λ x. vain_by t seen x ≡ true) xs → kept t seen xs ≡ []
  unfolding kept
  all_vain seen [] v = refl
  all_vain seen (x ∷ xs) v =
      rw v.0
      (all_vain (x ∷ seen) xs
      (all_map (λ y. vain_by t seen y ≡ true) (λ y. vain_by t (x ∷ seen) y ≡ true)
      (λ y e. or_true (vain t x y) (vain_by t seen y) e) xs v.1))

  pub all_kept : (P : Change A → Type 0) (seen xs : List (Change A)) → All P xs → All P (kept t seen xs)
  unfolding kept
  all_kept P seen [] v = tt
  all_kept P seen (x ∷ xs) v =
      let w = all_kept P (x ∷ seen) xs v.1 in
      cond_elim (All P) (vain_by t seen x) _ _ (λ e. w) (λ e. (v.0, w))

  pub sorted_kept : (seen xs : List (Change A)) → Sorted xs → Sorted (kept t seen xs)
  unfolding kept
  sorted_kept seen [] o = tt
  sorted_kept seen (x ∷ xs) o =
      let w = sorted_kept (x ∷ seen) xs o.1 in
      cond_elim Sorted (vain_by t seen x) _ _ (λ e. w) (λ e. (all_kept (λ d. T (before x d)) (x ∷ seen) xs o.0, w))

  -- ---- over a forest f of t, whose first row is b
  abbrev pub Rows : ℕ → Forest A → Type 0
  Rows b f = (x : ℕ) → x < count f → get_or (sizes t) (b + x) 0 ≡ get_or (sizes f) x 0

  pub kid_rows : (b : ℕ) (a : A) (k r : Forest A) → Rows b (tree a k r) → Rows (suc b) k
  kid_rows b a k r h x l =
      let e : suc b + x ≡ b + suc x = omega arith in
      rw e (h (suc x) (omega arith)) ∙ column-kids 0 size_column _ is-size 0 a k r x l

  pub rest-rows : (b : ℕ) (a : A) (k r : Forest A) → Rows b (tree a k r) → Rows (suc b + count k) r
  rest-rows b a k r h x l =
      let e : suc b + count k + x ≡ b + suc (count k + x) = omega arith in
      let w : count k + x - count k ≡ x = omega arith in
      rw e (h (suc (count k + x)) (omega arith))
      ∙ (column-rest 0 size_column _ is-size 0 a k r (count k + x) (omega arith) ∙ ap (λ (z : ℕ). get_or (sizes r) z 0) w)

  Trims : (b u : ℕ) → Forest A → Type 0
  Trims b u f = (cs : List (Change A)) → Fit b u f cs → all_made b u (kept t [] cs) f ≡ all_made b u cs f

  pub kept-insert : (p q : ℕ) (s : Forest A) (cs : List (Change A))
      → kept t [] (insert p q s ∷ cs) ≡ insert p q s ∷ kept t [] cs
  unfolding kept
  kept-insert p q s cs = ap (λ (l : List (Change A)). insert p q s ∷ l) (forget [] (insert p q s ∷ []) cs (free cs))
    where
      free : (ds : List (Change A)) → All (Free (insert p q s ∷ [])) ds
      free [] = tt
      free (d ∷ ds) = (refl, free ds)

  trim_none : (b u : ℕ) → Trims b u none
  unfolding Trims kept valid
  trim_none b u [] v = refl
  trim_none b u (act p x ∷ cs) v = absurd v.0.0
  trim_none b u (insert p q s ∷ cs) v =
      ap (λ (l : List (Change A)). all_made b u l none) (kept-insert p q s cs)
      ∙ ap (made b u (insert p q s)) (trim_none b u cs (v.0.1, v.1.1))

  module _ (b u : ℕ) (h : u ≤ b) (a : A) (k r : Forest A) (rows : Rows b (tree a k r)) where
    abbrev e : ℕ
    e = end b u k r

    -- a change past the tree is lost with none of the tree's rows
    pub past_free : (d : Change A) (p m : ℕ) → Past b u k r d → b ≤ p → m ≤ e → lost p m d ≡ false
    past_free d p m w l n =
        false_of (lost p m d)
        (λ v. let z = lost-told p m d v in omega (arith, told b u e d past h w.0 (omega arith)))

    pub vain-past : (c d : Change A) → Kid b u k r c → Past b u k r d → vain t c d ≡ false
    vain-past (insert p q s) d v w = refl
    vain-past (act p x) d v w =
        let i = in_kid b u k r h (act p x) v in
        let y : ℕ = p - suc b in
        let q : suc b + y ≡ p = omega (arith, i.0) in
        let n : y < count k = omega (arith, i.0, i.2) in
        let z = kid_rows b a k r rows y n in
        let s : get_or (sizes t) p 0 ≡ get_or (sizes k) y 0 = ap (λ (j : ℕ). get_or (sizes t) j 0) (sym q) ∙ z in
        let m : p + get_or (sizes t) p 0 ≤ e = omega (arith, s, size-at k y n, below_fits k y n, q) in
        and_false (removes x) (past_free d p (p + get_or (sizes t) p 0) w (omega (arith, i.0)) m)

    -- the tree's own change, at row b
    pub own_end : (p : ℕ) → p ≡ b → p + get_or (sizes t) p 0 ≡ e
    own_end p w =
        let z : get_or (sizes t) (b + 0) 0 ≡ suc (count k) = rows 0 (omega arith) in
        let v : p ≡ b + 0 = omega arith in
        omega (arith, z, ap (λ (j : ℕ). get_or (sizes t) j 0) v)

    own_free : (p : ℕ) (x : Act A) (d : Change A) → p ≡ b → Past b u k r d → vain t (act p x) d ≡ false
    own_free p x d w v =
        and_false (removes x) (past_free d p (p + get_or (sizes t) p 0) v (omega arith) (omega (arith, own_end p w)))

    own_vain : (p : ℕ) (x : Act A) (d : Change A) → p ≡ b → removes x ≡ true → Kid b u k r d → vain t (act p x) d ≡ true
    own_vain p x d w y v =
        let z = (sort_kids (mine b u d) (lost b e d) v.0).1 in
        rw (y, own_end p w, w) z

    -- past the tree nothing is vain by what stands before
    rest-kept : (seen K R : List (Change A)) → ((d : Change A) → Past b u k r d → Free seen d)
        → All (Kid b u k r) K → All (Past b u k r) R → kept t (onto seen K) R ≡ kept t [] R
    rest-kept seen K R f v w =
        forget [] (onto seen K) R
        (all_map (Past b u k r) (Free (onto seen K))
        (λ d y. free_onto seen K d (f d y)
        (all_map (Kid b u k r) (λ x. vain t x d ≡ false) (λ x z. vain-past x d z y) K v)) R w)

    parts-kept : (seen K R : List (Change A)) → ((d : Change A) → Past b u k r d → Free seen d)
        → All (Kid b u k r) K → All (Past b u k r) R → kept t seen (K ++ R) ≡ kept t seen K ++ kept t [] R
    parts-kept seen K R f v w =
        kept_append seen K R ∙ ap (λ (l : List (Change A)). kept t seen K ++ l) (rest-kept seen K R f v w)

    module _ (K R : List (Change A)) (vk : All (Kid b u k r) K) (vr : All (Past b u k r) R) where
      -- what is kept of the changes in the tree and past it
      pub kept-parts : kept t [] (K ++ R) ≡ kept t [] K ++ kept t [] R
      kept-parts = parts-kept [] K R (λ d y. refl) vk vr

      -- and behind a change of the tree itself: what goes takes the changes among its children along
      abbrev pub kids-kept : Act A → List (Change A)
      kids-kept delete = []
      kids-kept (rename n) = kept t [] K
      kids-kept (replace s) = []

      gone-kept : (p : ℕ) (x : Act A) → p ≡ b → removes x ≡ true → kept t (act p x ∷ []) K ≡ []
      gone-kept p x w y =
          all_vain (act p x ∷ []) K
          (all_map (Kid b u k r) (λ d. vain_by t (act p x ∷ []) d ≡ true) (λ d v. rw (own_vain p x d w y v)) K vk)

      behind_own : (p : ℕ) (x : Act A) → p ≡ b → kept t (act p x ∷ []) K ≡ kids-kept x
      behind_own p delete w = gone-kept p delete w refl
      behind_own p (rename n) w =
          forget [] (act p (rename n) ∷ []) K
          (all_map (Kid b u k r) (Free (act p (rename n) ∷ [])) (λ d v. refl) K vk)
      behind_own p (replace s) w = gone-kept p (replace s) w refl

      pub kept_own : (p : ℕ) (x : Act A) → p ≡ b → kept t [] (act p x ∷ K ++ R) ≡ act p x ∷ kids-kept x ++ kept t [] R
      unfolding kept
      kept_own p x w =
          ap (λ (l : List (Change A)). act p x ∷ l)
          (parts-kept (act p x ∷ []) K R (λ d y. rw (own_free p x d w y)) vk vr
          ∙ ap (λ (l : List (Change A)). l ++ kept t [] R) (behind_own p x w))

    -- two lists make the same of the tree
    abbrev Same : List (Change A) → List (Change A) → Type 0
    Same l m = all_made b u l (tree a k r) ≡ all_made b u m (tree a k r)

    module _ (tk : Trims (suc b) (suc b) k) (tr : Trims e u r) (K R : List (Change A))
        (vk : All (Kid b u k r) K) (ok : Sorted K) (vr : All (Past b u k r) R) (or : Sorted R) where
      rest_trim : all_made e u (kept t [] R) r ≡ all_made e u R r
      unfolding Trims
      rest_trim = tr R (all_map (Past b u k r) (λ c. T (valid e u r c)) (λ c z. z.1) R vr, or)

      both_trim : Same (kept t [] K ++ kept t [] R) (K ++ R)
      unfolding Trims
      both_trim =
          let w = tk K (all_map (Kid b u k r) (λ c. T (valid (suc b) (suc b) k c)) (λ c z. z.1) K vk, ok) in
          rw (made_both b u h k r a K R vk ok vr, ← w, ← rest_trim)
          (made_both b u h k r a (kept t [] K) (kept t [] R) (all_kept (Kid b u k r) [] K vk) (sorted_kept [] K ok)
          (all_kept (Past b u k r) [] R vr))

      plain_trim : Same (kept t [] (K ++ R)) (K ++ R)
      plain_trim = rw (kept-parts K R vk vr) both_trim

      -- what goes takes along whatever was made of its children
      same-instead : (x : Act A) (f g : Forest A) → removes x ≡ true → instead x a f ≡ instead x a g
      same-instead delete f g w = refl
      same-instead (rename n) f g w = let z : ◌≡◌ {A = ℕ} 0 1 = cc in absurd (omega arith)
      same-instead (replace s) f g w = refl

      gone_trim : (p : ℕ) (x : Act A) → mine b u (act p x) ≡ true → removes x ≡ true
          → Same (act p x ∷ kept t [] R) (act p x ∷ K ++ R)
      gone_trim p x m y =
          rw (
            made_both b u h k r a K R vk ok vr,
            made_rest b u h k r a r (kept t [] R) (all_kept (Past b u k r) [] R vr),
            made_act b u p x a k (all_made e u (kept t [] R) r) m,
            made_act b u p x a (all_made (suc b) (suc b) K k) (all_made e u R r) m,
            rest_trim,
            same-instead x k (all_made (suc b) (suc b) K k) y,
          )

      own_trim : (p : ℕ) (x : Act A) → mine b u (act p x) ≡ true
          → Same (act p x ∷ kids-kept K R vk vr x ++ kept t [] R) (act p x ∷ K ++ R)
      own_trim p delete m = gone_trim p delete m refl
      own_trim p (rename n) m = ap (made b u (act p (rename n))) both_trim
      own_trim p (replace s) m = gone_trim p (replace s) m refl

    shape_trim : Trims (suc b) (suc b) k → Trims e u r → {cs : List (Change A)} → Shape b u k r h cs
        → Same (kept t [] cs) cs
    shape_trim tk tr (plain cs v o) =
        let q = cut b u k r h cs v o in
        subst (λ (l : List (Change A)). Same (kept t [] l) l) (sym q.whole)
        (plain_trim tk tr q.K q.R q.kids_k q.sorted_k q.past_r q.sorted_r)
    shape_trim tk tr (acts p x cs m v o) =
        let q = cut b u k r h cs v o in
        let w = own_trim tk tr q.K q.R q.kids_k q.sorted_k q.past_r q.sorted_r p x in
        subst (λ (l : List (Change A)). Same (kept t [] (act p x ∷ l)) (act p x ∷ l)) (sym q.whole)
        (rw (kept_own q.K q.R q.kids_k q.past_r p x (eqb→eq p b m)) (w (true_of (mine b u (act p x)) m)))
    shape_trim tk tr (inserts p q s cs m y) =
        ap (λ (l : List (Change A)). all_made b u l (tree a k r)) (kept-insert p q s cs)
        ∙ ap (made b u (insert p q s)) (shape_trim tk tr y)

  trim : (b u : ℕ) (f : Forest A) → u ≤ b → Rows b f → Trims b u f
  unfolding Trims
  trim b u none h w cs v = trim_none b u cs v
  trim b u (tree a k r) h w cs v =
      shape_trim b u h a k r w (trim (suc b) (suc b) k (omega arith) (kid_rows b a k r w))
      (trim (suc b + count k) u r (omega arith) (rest-rows b a k r w)) (shape_of b u k r h a cs v)

  -- the kept changes alone mean what the list means
  pub kept-meaning : (cs : List (Change A)) → Fit 0 0 t cs → meaning (kept t [] cs) t ≡ meaning cs t
  unfolding Trims
  kept-meaning cs w =
      let same : Rows 0 t = λ x l. ap (λ (y : ℕ). get_or (sizes t) y 0) (omega arith) in
      let fit : Fit 0 0 t (kept t [] cs) = (all_kept (λ c. T (valid 0 0 t c)) [] cs w.0, sorted_kept [] cs w.1) in
      sym (made_meaning t (kept t [] cs) fit) ∙ (trim 0 0 t (omega arith) same cs w ∙ made_meaning t cs w)
