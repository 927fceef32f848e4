-- The labels after a list are a merge: the old labels in order, with the rows cut out that kept changes remove, and the
-- runs put in that kept changes bring. No tree has to be looked at, so the whole column is written in one go.
-- Assumes nothing.
use Prim.Native.Nat.{ℕ, suc, ◌+◌, ◌-◌, ◌≤◌}
use native.Mathlib.Omega.{arith}
use mathlib.Core.Path.{◌≡◌, refl, sym, ap, ◌∙◌, subst}
use mathlib.Core.Bool.{true}
use mathlib.Core.List.{List, [], ◌∷◌, ◌++◌, map, append_assoc, append-nil}
use lib.Dec.{T, eqb→eq}
use lib.ListN.{length, take, drop, get_or}
use lib.Seq.{take-add, drop-drop, take_at, drop_at}
use Rattle.plan.specs.Tree.{Forest, none, tree, count, labels, sizes, ◌⊕◌}
use Rattle.plan.specs.Change.{Act, delete, rename, replace, Change, insert, act, instead, meaning, kept}
use Rattle.plan.proofs.Kit.{true_of, All, all_map}
use Rattle.plan.proofs.Columns.{length-labels, labels_beside}
use Rattle.plan.proofs.Standing.{location, mine, all_made, valid, mine_told}
use Rattle.plan.proofs.Single.{made_insert, made_act}
use Rattle.plan.proofs.Cut.{Sorted, Fit, end, Kid, Past, cut, Shape, plain, acts, inserts, shape_of}
use Rattle.plan.proofs.Pass.{made_both}
use Rattle.plan.proofs.Faithful.{made_meaning}
use Rattle.plan.proofs.Kept.{Rows, kid_rows, rest-rows, kept-insert, kids-kept, kept-parts, kept_own}

-- the elements from r up to m
module _ {X : Type 0} (l : List X) where
  abbrev pub part : (r m : ℕ) → List X
  part r m = take (m - r) (drop r l)

  pub part_none : (r : ℕ) → part r r ≡ []
  part_none r = let e : r - r ≡ 0 = omega arith in rw e

  pub part_split : (r m n : ℕ) → r ≤ m → m ≤ n → part r n ≡ part r m ++ part m n
  part_split r m n h k =
      let e : n - r ≡ m - r + (n - m) = omega arith in
      let w : r + (m - r) ≡ m = omega arith in
      ap (λ (z : ℕ). take z (drop r l)) e
      ∙ (take-add (m - r) (n - m) (drop r l)
      ∙ ap (λ (y : List X). part r m ++ take (n - m) y) (drop-drop (m - r) r l ∙ ap (λ (z : ℕ). drop z l) w))

module _ {A : Type 0} (t : Forest A) where
  -- what a kept change brings, and the old row at which the old rows go on behind it
  abbrev pub brings : Change A → List A
  brings (insert p q s) = labels s
  brings (act p delete) = []
  brings (act p (rename h)) = map h (part (labels t) p (suc p))
  brings (act p (replace s)) = labels s

  abbrev pub onward : Change A → ℕ
  onward (insert p q s) = p
  onward (act p delete) = p + get_or (sizes t) p 0
  onward (act p (rename h)) = suc p
  onward (act p (replace s)) = p + get_or (sizes t) p 0

  -- the old rows from r up to n, with the kept changes cs
  abbrev pub merged : (r n : ℕ) → List (Change A) → List A
  merged r n [] = part (labels t) r n
  merged r n (c ∷ cs) = part (labels t) r (location c) ++ (brings c ++ merged (onward c) n cs)

  -- from r up to n, the changes follow one another: each starts where the one before goes on, or later
  abbrev pub Chain : (r n : ℕ) → List (Change A) → Type 0
  Chain r n [] = r ≤ n
  Chain r n (c ∷ cs) = (r ≤ location c) × Chain (onward c) n cs

  pub chain_sooner : (q r n : ℕ) (cs : List (Change A)) → q ≤ r → Chain r n cs → Chain q n cs
  chain_sooner q r n [] h v = omega arith
  chain_sooner q r n (c ∷ cs) h v = (omega arith, v.1)

  chain_append : (r m n : ℕ) (xs ys : List (Change A)) → Chain r m xs → Chain m n ys → Chain r n (xs ++ ys)
  chain_append r m n [] ys v w = chain_sooner r m n ys v w
  chain_append r m n (x ∷ xs) ys v w = (v.0, chain_append (onward x) m n xs ys v.1 w)

  pub not_back : (c : Change A) → location c ≤ onward c
  not_back (insert p q s) = omega arith
  not_back (act p delete) = omega arith
  not_back (act p (rename h)) = omega arith
  not_back (act p (replace s)) = omega arith

  pub chain_most : (r n : ℕ) (cs : List (Change A)) → Chain r n cs → r ≤ n
  chain_most r n [] v = v
  chain_most r n (c ∷ cs) v = omega (arith, v.0, not_back c, chain_most (onward c) n cs v.1)

  -- up to a row that no change reaches across
  merged_front : (r m n : ℕ) (ys : List (Change A)) → r ≤ m → Chain m n ys
      → merged r n ys ≡ part (labels t) r m ++ merged m n ys
  merged_front r m n [] h v = part_split (labels t) r m n h v
  merged_front r m n (y ∷ ys) h v =
      rw (part_split (labels t) r m (location y) h v.0)
      (append_assoc (part (labels t) r m) (part (labels t) m (location y)) (brings y ++ merged (onward y) n ys))

  merged_split : (r m n : ℕ) (xs ys : List (Change A)) → Chain r m xs → Chain m n ys
      → merged r n (xs ++ ys) ≡ merged r m xs ++ merged m n ys
  merged_split r m n [] ys v w = merged_front r m n ys v w
  merged_split r m n (x ∷ xs) ys v w =
      let front : List A = merged (onward x) m xs in
      rw (merged_split (onward x) m n xs ys v.1 w, ← append_assoc (brings x) front (merged m n ys))
      (sym (append_assoc (part (labels t) r (location x)) (brings x ++ front) (merged m n ys)))

  -- ---- over a forest f of t, whose first row is b
  record Found (b : ℕ) (f : Forest A) : Type 0 where
    rows : Rows t b f
    behind : List A
    found : drop b (labels t) ≡ labels f ++ behind

  found_part : (b n : ℕ) (f : Forest A) → Found b f → n ≡ b + count f → part (labels t) b n ≡ labels f
  found_part b n f w e =
      let m : n - b ≡ length (labels f) = omega (arith, length-labels f) in
      rw (w.found, m) (take_at (labels f) w.behind (length (labels f)) refl)

  own_part : (b : ℕ) (a : A) (k r : Forest A) → Found b (tree a k r) → part (labels t) b (suc b) ≡ a ∷ []
  own_part b a k r w = let m : suc b - b ≡ 1 = omega arith in rw (w.found, m)

  after_own : (b : ℕ) (a : A) (k r : Forest A) (w : Found b (tree a k r))
      → drop (suc b) (labels t) ≡ labels k ++ (labels r ++ w.behind)
  after_own b a k r w =
      let e : b + 1 ≡ suc b = omega arith in
      rw (← e, ← drop-drop 1 b (labels t), w.found) (append_assoc (labels k) (labels r) w.behind)

  kid_found : (b : ℕ) (a : A) (k r : Forest A) → Found b (tree a k r) → Found (suc b) k
  kid_found b a k r w =
      record { rows = kid_rows t b a k r w.rows; behind = labels r ++ w.behind; found = after_own b a k r w }

  rest_found : (b : ℕ) (a : A) (k r : Forest A) → Found b (tree a k r) → Found (suc b + count k) r
  rest_found b a k r w =
      record {
        rows = rest-rows t b a k r w.rows;
        behind = w.behind;
        found = rw (← drop-drop (count k) (suc b) (labels t), after_own b a k r w)
            (drop_at (labels k) (labels r ++ w.behind) (count k) (length-labels k));
      }

  -- the forest g comes of the rows from b up to n, by kept changes that follow one another
  record Merged (b n : ℕ) (g : Forest A) (cs : List (Change A)) : Type 0 where
    chain : Chain b n cs
    is : labels g ≡ merged b n cs

  abbrev Merges : (b u : ℕ) → Forest A → Type 0
  Merges b u f = (cs : List (Change A)) → Fit b u f cs → Merged b (b + count f) (all_made b u cs f) (kept t [] cs)

  -- an insert at the start
  merge_insert : (b u n p q : ℕ) (s f : Forest A) (cs : List (Change A)) → u ≤ b → T (mine b u (insert p q s))
      → Merged b n (all_made b u cs f) (kept t [] cs)
      → Merged b n (all_made b u (insert p q s ∷ cs) f) (kept t [] (insert p q s ∷ cs))
  merge_insert b u n p q s f cs h m w =
      let e : p ≡ b = (mine_told b u b (insert p q s) h m).0 in
      let g : Forest A = all_made b u cs f in
      rw (kept-insert t p q s cs, made_insert b u p q s g (true_of (mine b u (insert p q s)) m), e)
      (record {
        chain = (omega arith, w.chain);
        is = rw (labels_beside s g, w.is, part_none (labels t) b);
      })

  merge_none : (b u : ℕ) → u ≤ b → Found b none → Merges b u none
  unfolding kept valid
  merge_none b u h w [] v = record { chain = omega arith; is = sym (found_part b (b + 0) none w refl) }
  merge_none b u h w (act p x ∷ cs) v = absurd v.0.0
  merge_none b u h w (insert p q s ∷ cs) v =
      merge_insert b u (b + 0) p q s none cs h v.0.0 (merge_none b u h w cs (v.0.1, v.1.1))

  module _ (b u : ℕ) (h : u ≤ b) (a : A) (k r : Forest A) (w : Found b (tree a k r))
      (mk : Merges (suc b) (suc b) k) (mr : Merges (suc b + count k) u r) where
    abbrev e : ℕ
    e = end b u k r

    abbrev n : ℕ
    n = b + suc (count k + count r)

    module _ (K R : List (Change A)) (vk : All (Kid b u k r) K) (ok : Sorted K)
        (vr : All (Past b u k r) R) (or : Sorted R) where
      abbrev k' : Forest A
      k' = all_made (suc b) (suc b) K k

      abbrev r' : Forest A
      r' = all_made e u R r

      rest_merge : Merged e n r' (kept t [] R)
      rest_merge =
          let z : e + count r ≡ n = omega arith in
          rw z at (mr R (all_map (Past b u k r) (λ c. T (valid e u r c)) (λ c y. y.1) R vr, or))

      kids_merge : Merged (suc b) e k' (kept t [] K)
      kids_merge = mk K (all_map (Kid b u k r) (λ c. T (valid (suc b) (suc b) k c)) (λ c y. y.1) K vk, ok)

      both_chain : Chain (suc b) n (kept t [] K ++ kept t [] R)
      both_chain = chain_append (suc b) e n (kept t [] K) (kept t [] R) kids_merge.chain rest_merge.chain

      both_merge : merged (suc b) n (kept t [] K ++ kept t [] R) ≡ labels k' ++ labels r'
      both_merge =
          rw (rest_merge.is, kids_merge.is)
          (merged_split (suc b) e n (kept t [] K) (kept t [] R) kids_merge.chain rest_merge.chain)

      plain_merge : Merged b n (all_made b u (K ++ R) (tree a k r)) (kept t [] (K ++ R))
      plain_merge =
          let ks : List (Change A) = kept t [] K ++ kept t [] R in
          rw (made_both b u h k r a K R vk ok vr, kept-parts t b u h a k r w.rows K R vk vr)
          (record {
            chain = chain_sooner b (suc b) n ks (omega arith) both_chain;
            is = rw (merged_front b (suc b) n ks (omega arith) both_chain, own_part b a k r w, both_merge);
          })

      own_end : b + get_or (sizes t) b 0 ≡ e
      own_end =
          let z : b + 0 ≡ b = omega arith in
          omega (arith, w.rows 0 (omega arith), ap (λ (j : ℕ). get_or (sizes t) j 0) z)

      abbrev own_kept : Act A → List (Change A)
      own_kept x = kids-kept t b u h a k r w.rows K R vk vr x ++ kept t [] R

      own_merge : (x : Act A) → Merged b n (instead x a k' ⊕ r') (act b x ∷ own_kept x)
      own_merge delete =
          record {
            chain = (omega arith, rw own_end rest_merge.chain);
            is = rw (part_none (labels t) b, own_end) rest_merge.is;
          }
      own_merge (rename g) =
          record {
            chain = (omega arith, both_chain);
            is = rw (part_none (labels t) b, own_part b a k r w, both_merge);
          }
      own_merge (replace s) =
          record {
            chain = (omega arith, rw own_end rest_merge.chain);
            is = rw (part_none (labels t) b, own_end, labels_beside s r', rest_merge.is);
          }

      act_merge : (p : ℕ) (x : Act A) → mine b u (act p x) ≡ true → p ≡ b
          → Merged b n (all_made b u (act p x ∷ K ++ R) (tree a k r)) (kept t [] (act p x ∷ K ++ R))
      act_merge p x m z =
          rw (
            made_both b u h k r a K R vk ok vr,
            made_act b u p x a k' r' m,
            kept_own t b u h a k r
                w.rows K R vk vr p x z,
            z,
          )
          (own_merge x)

    abbrev Whole : List (Change A) → Type 0
    Whole cs = Merged b n (all_made b u cs (tree a k r)) (kept t [] cs)

    shape_merge : {cs : List (Change A)} → Shape b u k r h cs → Whole cs
    shape_merge (plain cs v o) =
        let q = cut b u k r h cs v o in
        subst Whole (sym q.whole) (plain_merge q.K q.R q.kids_k q.sorted_k q.past_r q.sorted_r)
    shape_merge (acts p x cs m v o) =
        let q = cut b u k r h cs v o in
        let z = act_merge q.K q.R q.kids_k q.sorted_k q.past_r q.sorted_r p x in
        subst (λ (l : List (Change A)). Whole (act p x ∷ l)) (sym q.whole)
        (z (true_of (mine b u (act p x)) m) (eqb→eq p b m))
    shape_merge (inserts p q s cs m y) = merge_insert b u n p q s (tree a k r) cs h m (shape_merge y)

  merges : (b u : ℕ) (f : Forest A) → u ≤ b → Found b f → Merges b u f
  merges b u none h w cs v = merge_none b u h w cs v
  merges b u (tree a k r) h w cs v =
      shape_merge b u h a k r w (merges (suc b) (suc b) k (omega arith) (kid_found b a k r w))
      (merges (suc b + count k) u r (omega arith) (rest_found b a k r w)) (shape_of b u k r h a cs v)

  whole_merge : (cs : List (Change A)) → Fit 0 0 t cs → Merged 0 (count t) (all_made 0 0 cs t) (kept t [] cs)
  whole_merge cs v =
      let same : Rows t 0 t = λ x l. ap (λ (y : ℕ). get_or (sizes t) y 0) (omega arith) in
      let w : Found 0 t = record { rows = same; behind = []; found = sym (append-nil (labels t)) } in
      let z : 0 + count t ≡ count t = omega arith in
      rw z at (merges 0 0 t (omega arith) w cs v)

  -- the kept changes of a list that fits follow one another
  pub kept_chain : (cs : List (Change A)) → Fit 0 0 t cs → Chain 0 (count t) (kept t [] cs)
  kept_chain cs v = (whole_merge cs v).chain

  -- the labels of what it means
  pub meaning_merged : (cs : List (Change A)) → Fit 0 0 t cs
      → labels (meaning cs t) ≡ merged 0 (count t) (kept t [] cs)
  meaning_merged cs v = ap labels (sym (made_meaning t cs v)) ∙ (whole_merge cs v).is
