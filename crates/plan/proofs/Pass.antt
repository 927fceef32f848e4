-- The pass: a list in one go over the forest, from left to right. What is left of the list is handed on; a delete or
-- replace drops what it makes vain. For a list that fits, the pass gives the forest that its changes give one by one.
-- Assumes nothing.
use Prim.Native.Nat.{ℕ, suc, ◌+◌, ◌≤◌, ◌<◌}
use native.Mathlib.Omega.{arith}
use mathlib.Core.Path.{◌≡◌, refl, sym, subst, ◌∙◌}
use mathlib.Core.Bool.{true, false, cond}
use mathlib.Core.List.{List, [], ◌∷◌, ◌++◌, append_assoc, append-nil}
use lib.Dec.{T, eqb}
use Rattle.plan.specs.Tree.{Forest, none, tree, count, ◌⊕◌}
unfoldable pub use Rattle.plan.specs.Change.{skip}
use Rattle.plan.specs.Change.{Act, delete, rename, replace, Change, insert, act, instead, lost}
use Rattle.plan.proofs.Kit.{true_of, false_of, All, all_append, all_map}
use Rattle.plan.proofs.Standing.{kids, past, sort_kids, sort_past, only_kids, location, row, mine, side, made, all_made, valid, before, here, told, mine_told, lost-told, ord}
use Rattle.plan.proofs.Single.{keep_all, made_insert, made_act, made_kids, made_past, made_append}
use Rattle.plan.proofs.Cut.{Sorted, Fit, end, Kid, Past, cut, Shape, plain, acts, inserts, shape_of, in_kid}

-- what comes out: a forest, and the changes that are left
abbrev pub Out : Type 0 → Type 0
Out A = Forest A × List (Change A)

abbrev pub Pass : Type 0 → Type 0
Pass A = List (Change A) → Out A

module _ {A : Type 0} where
  -- s, and then what comes out
  abbrev pub ahead : Forest A → Out A → Out A
  ahead s o = (s ⊕ o.0, o.1)

  -- the inserts for just this place, from the front of the list, and then go on
  unfoldable pub arrivals : (b u : ℕ) → Pass A → Pass A
  arrivals b u go [] = go []
  arrivals b u go (act p x ∷ cs) = go (act p x ∷ cs)
  arrivals b u go (insert p q s ∷ cs) =
      cond (mine b u (insert p q s)) (ahead s (arrivals b u go cs)) (go (insert p q s ∷ cs))

  -- a tree with label a, what the pass K makes of its children, and what the pass R makes of the rest
  abbrev pub both : A → Pass A → Pass A → Pass A
  both a K R cs = let k = K cs in let r = R k.1 in (tree a k.0 r.0, r.1)

  abbrev pub turned : Act A → A → (List (Change A) → List (Change A)) → Pass A → Pass A → Pass A
  turned delete a S K R cs = R (S cs)
  turned (rename g) a S K R cs = both (g a) K R cs
  turned (replace s) a S K R cs = ahead s (R (S cs))

  abbrev pub turn : ℕ → A → (List (Change A) → List (Change A)) → Pass A → Pass A → Pass A
  turn b a S K R [] = both a K R []
  turn b a S K R (insert p q s ∷ cs) = both a K R (insert p q s ∷ cs)
  turn b a S K R (act p x ∷ cs) = cond (eqb p b) (turned x a S K R cs) (both a K R (act p x ∷ cs))

  unfoldable pub pass : (b u : ℕ) → Forest A → Pass A
  pass b u none cs = arrivals b u (λ ds. (none, ds)) cs
  pass b u (tree a k r) cs =
      let e = suc b + count k in
      arrivals b u (turn b a (skip b e) (λ ds. pass (suc b) (suc b) k ds) (λ ds. pass e u r ds)) cs

  -- what is left over is for none of the rows from b up to n
  abbrev pub Beyond : (u n : ℕ) → Change A → Type 0
  Beyond u n d = u ≤ suc (row d) → n ≤ row d

  -- the pass over f makes the changes that fit f, and leaves the others
  abbrev pub Makes : (b u : ℕ) → Forest A → Type 0
  Makes b u f = (cs ds : List (Change A)) → Fit b u f cs → All (Beyond u (b + count f)) ds
      → pass b u f (cs ++ ds) ≡ (all_made b u cs f, ds)

  -- ---- behind the last sibling
  nothing_left : (b u : ℕ) → u ≤ b → (cs ds : List (Change A)) → All (λ c. T (valid b u none c)) cs
      → All (Beyond u b) ds
      → arrivals b u (λ es. (none, es)) (cs ++ ds) ≡ (all_made b u cs none, ds)
  unfolding valid arrivals
  nothing_left b u h [] [] v w = refl
  nothing_left b u h [] (act p x ∷ ds) v w = refl
  nothing_left b u h [] (insert p q s ∷ ds) v w =
      rw (false_of (mine b u (insert p q s))
      (λ t. let m = mine_told b u b (insert p q s) h t in omega (arith, w.0 (omega arith))))
  nothing_left b u h (act p x ∷ cs) ds v w = absurd v.0
  nothing_left b u h (insert p q s ∷ cs) ds v w =
      let m = true_of (mine b u (insert p q s)) v.0 in
      rw (m, nothing_left b u h cs ds v.1 w, made_insert b u p q s (all_made b u cs none) m)

  -- ---- a tree
  no_arrivals : (b u : ℕ) (a : A) (S : List (Change A) → List (Change A)) (K R : Pass A) (cs : List (Change A))
      → All (λ c. mine b u c ≡ false) cs → arrivals b u (turn b a S K R) cs ≡ both a K R cs
  unfolding arrivals
  no_arrivals b u a S K R [] w = refl
  no_arrivals b u a S K R (act p x ∷ cs) w = rw w.0
  no_arrivals b u a S K R (insert p q s ∷ cs) w = rw w.0

  skipped : (b e : ℕ) (K cs : List (Change A)) → All (λ c. lost b e c ≡ true) K → All (λ c. lost b e c ≡ false) cs
      → skip b e (K ++ cs) ≡ cs
  unfolding skip
  skipped b e [] [] v w = refl
  skipped b e [] (c ∷ cs) v w = rw w.0
  skipped b e (c ∷ K) cs v w = rw v.0 (skipped b e K cs v.1 w)

  both_is : (a : A) (K R : Pass A) (cs ds es : List (Change A)) (k r : Forest A) → K cs ≡ (k, ds) → R ds ≡ (r, es)
      → both a K R cs ≡ (tree a k r, es)
  both_is a K R cs ds es k r v w = rw (v, w)

  module _ (b u : ℕ) (h : u ≤ b) (k r : Forest A) where
    abbrev e : ℕ
    e = end b u k r

    pub made_rest : (a : A) (g : Forest A) (cs : List (Change A)) → All (Past b u k r) cs
        → all_made b u cs (tree a k g) ≡ tree a k (all_made e u cs g)
    made_rest a g [] v = refl
    made_rest a g (c ∷ cs) v = rw (made_rest a g cs v.1) (made_past b u c a k (all_made e u cs g) v.0.0)

    -- a change among the children stays there, wherever the children come to end
    pub stay : (c : Change A) (m : ℕ) → Kid b u k r c → row c < m → side b u m c ≡ kids
    stay c m v l =
        let i = in_kid b u k r h c v in
        let t = told b u e c kids h v.0 in
        only_kids (side b u m c) (λ w. omega (arith, told b u m c here h w))
        (λ w. omega (arith, told b u m c past h w t.0))

    pub made_inner : (a : A) (g : Forest A) (cs : List (Change A)) → All (Kid b u k r) cs → Sorted cs
        → all_made b u cs (tree a k g) ≡ tree a (all_made (suc b) (suc b) cs k) g
    made_inner a g [] v o = refl
    made_inner a g (c ∷ cs) v o =
        let i = in_kid b u k r h c v.0 in
        let w : All (λ (d : Change A). row c < location d) cs =
        all_map (λ d. T (before c d)) (λ d. row c < location d) (λ d t. (ord c d i.3 t).1) cs o.0 in
        let f : Forest A = all_made (suc b) (suc b) cs k in
        let n = keep_all (suc (row c)) (suc b) (suc b) cs k (omega arith) w (omega arith) in
        rw (made_inner a g cs v.1 o.1) (made_kids b u c a f g (stay c (suc b + count f) v.0 n))

    -- the changes among the children and those past the tree, one by one
    pub made_both : (a : A) (K R : List (Change A)) → All (Kid b u k r) K → Sorted K → All (Past b u k r) R
        → all_made b u (K ++ R) (tree a k r) ≡ tree a (all_made (suc b) (suc b) K k) (all_made e u R r)
    made_both a K R v o w =
        rw (made_append b u K R (tree a k r), made_rest a r R w) (made_inner a (all_made e u R r) K v o)

    module _ (mk : Makes (suc b) (suc b) k) (mr : Makes e u r) (ds : List (Change A))
        (w : All (Beyond u (b + suc (count k + count r))) ds) where
      abbrev n : ℕ
      n = b + suc (count k + count r)

      abbrev over-kids : Pass A
      over-kids es = pass (suc b) (suc b) k es

      abbrev over-rest : Pass A
      over-rest es = pass e u r es

      -- what is left, seen from the rest and from the children
      left_r : All (Beyond u (e + count r)) ds
      left_r = all_map (Beyond u n) (Beyond u (e + count r)) (λ d v l. omega (arith, v l)) ds w

      left_k : (R : List (Change A)) → All (Past b u k r) R → All (Beyond (suc b) e) (R ++ ds)
      left_k R v =
          all_append (Beyond (suc b) e) R ds
          (all_map (Past b u k r) (Beyond (suc b) e) (λ d z l. told b u e d past h z.0 (omega arith)) R v)
          (all_map (Beyond u n) (Beyond (suc b) e) (λ d v l. omega (arith, v (omega arith))) ds w)

      rest-is : (R : List (Change A)) → All (Past b u k r) R → Sorted R → over-rest (R ++ ds) ≡ (all_made e u R r, ds)
      rest-is R v o = mr R ds (all_map (Past b u k r) (λ c. T (valid e u r c)) (λ c z. z.1) R v, o) left_r

      kids-is : (K R : List (Change A)) → All (Kid b u k r) K → Sorted K → All (Past b u k r) R
          → over-kids (K ++ (R ++ ds)) ≡ (all_made (suc b) (suc b) K k, R ++ ds)
      kids-is K R v o z =
          mk K (R ++ ds) (all_map (Kid b u k r) (λ c. T (valid (suc b) (suc b) k c)) (λ c z. z.1) K v, o) (left_k R z)

      -- the pass over the tree, from behind the inserts in front of it
      abbrev onward : A → Pass A
      onward a = turn b a (skip b e) over-kids over-rest

      both_parts : (a : A) (K R : List (Change A)) → All (Kid b u k r) K → Sorted K → All (Past b u k r) R → Sorted R
          → both a over-kids over-rest (K ++ (R ++ ds)) ≡ (tree a (all_made (suc b) (suc b) K k) (all_made e u R r), ds)
      both_parts a K R v o z y =
          both_is a over-kids over-rest (K ++ (R ++ ds)) (R ++ ds) ds _ _ (kids-is K R v o z) (rest-is R z y)

      not_mine : (K R : List (Change A)) → All (Kid b u k r) K → All (Past b u k r) R
          → All (λ c. mine b u c ≡ false) (K ++ (R ++ ds))
      not_mine K R v z =
          let M : Change A → Type 0 = λ c. mine b u c ≡ false in
          all_append M K (R ++ ds) (all_map (Kid b u k r) M (λ c y. (sort_kids (mine b u c) (lost b e c) y.0).0) K v)
          (all_append M R ds (all_map (Past b u k r) M (λ c y. (sort_past (mine b u c) (lost b e c) y.0).0) R z)
          (all_map (Beyond u n) M
          (λ c y. false_of (mine b u c) (λ t. let m = mine_told b u (suc b) c h t in omega (arith, y m.1))) ds w))

      gone : (K R : List (Change A)) → All (Kid b u k r) K → All (Past b u k r) R → skip b e (K ++ (R ++ ds)) ≡ R ++ ds
      gone K R v z =
          skipped b e K (R ++ ds)
          (all_map (Kid b u k r) (λ c. lost b e c ≡ true) (λ c y. (sort_kids (mine b u c) (lost b e c) y.0).1) K v)
          (all_map (Beyond (suc b) e) (λ c. lost b e c ≡ false)
          (λ c y. false_of (lost b e c) (λ t. let m = lost-told b e c t in omega (arith, y (omega arith)))) (R ++ ds)
          (left_k R z))

      plain-is : (a : A) (K R : List (Change A)) → All (Kid b u k r) K → Sorted K → All (Past b u k r) R → Sorted R
          → arrivals b u (onward a) ((K ++ R) ++ ds) ≡ (all_made b u (K ++ R) (tree a k r), ds)
      plain-is a K R v o z y =
          rw (append_assoc K R ds, made_both a K R v o z)
          (no_arrivals b u a (skip b e) over-kids over-rest (K ++ (R ++ ds))
          (not_mine K R v z) ∙ both_parts a K R v o z y)

      turned_is : (a : A) (x : Act A) (K R : List (Change A)) → All (Kid b u k r) K → Sorted K → All (Past b u k r) R
          → Sorted R
          → turned x a (skip b e) over-kids over-rest
          (K ++ (R ++ ds)) ≡ (instead x a (all_made (suc b) (suc b) K k) ⊕ all_made e u R r, ds)
      turned_is a delete K R v o z y = rw (gone K R v z) (rest-is R z y)
      turned_is a (rename g) K R v o z y = both_parts (g a) K R v o z y
      turned_is a (replace s) K R v o z y = rw (gone K R v z, rest-is R z y)

      act-is : (a : A) (p : ℕ) (x : Act A) (K R : List (Change A)) → mine b u (act p x) ≡ true
          → All (Kid b u k r) K → Sorted K → All (Past b u k r) R → Sorted R
          → arrivals b u (onward a)
          (act p x ∷ (K ++ R) ++ ds) ≡ (made b u (act p x) (all_made b u (K ++ R) (tree a k r)), ds)
      unfolding arrivals
      act-is a p x K R m v o z y =
          rw (
            append_assoc K R ds,
            made_both a K R v o z,
            made_act b u p x a (all_made (suc b) (suc b) K k)
                (all_made e u R r) m,
            m,
          )
          (turned_is a x K R v o z y)

      shaped : (a : A) {cs : List (Change A)} → Shape b u k r h cs
          → arrivals b u (onward a) (cs ++ ds) ≡ (all_made b u cs (tree a k r), ds)
      unfolding arrivals
      shaped a (plain cs v o) =
          let q = cut b u k r h cs v o in
          subst (λ (l : List (Change A)). arrivals b u (onward a) (l ++ ds) ≡ (all_made b u l (tree a k r), ds))
          (sym q.whole)
          (plain-is a q.K q.R q.kids_k q.sorted_k q.past_r q.sorted_r)
      shaped a (acts p x cs m v o) =
          let q = cut b u k r h cs v o in
          subst (λ (l : List (Change A)). arrivals b u (onward a)
          (act p x ∷ l ++ ds) ≡ (all_made b u (act p x ∷ l) (tree a k r), ds)) (sym q.whole)
          (act-is a p x q.K q.R (true_of (mine b u (act p x)) m) q.kids_k q.sorted_k q.past_r q.sorted_r)
      shaped a (inserts p q s cs m y) =
          let w = true_of (mine b u (insert p q s)) m in
          rw (w, shaped a y, made_insert b u p q s (all_made b u cs (tree a k r)) w)

  pub pass_makes : (b u : ℕ) → u ≤ b → (f : Forest A) → Makes b u f
  unfolding pass
  pass_makes b u h none cs ds v w =
      nothing_left b u h cs ds v.0 (all_map (Beyond u (b + 0)) (Beyond u b) (λ d v l. omega (arith, v l)) ds w)
  pass_makes b u h (tree a k r) cs ds v w =
      shaped b u h k r (pass_makes (suc b) (suc b) (omega arith) k)
      (pass_makes (suc b + count k) u (omega arith) r) ds w a
      (shape_of b u k r h a cs v)

  -- one pass over a tree, for a list that fits it
  pub pass_whole : (t : Forest A) (cs : List (Change A)) → Fit 0 0 t cs → pass 0 0 t cs ≡ (all_made 0 0 cs t, [])
  pass_whole t cs h = rw (append-nil cs) at (pass_makes 0 0 (omega arith) t cs [] h tt)
