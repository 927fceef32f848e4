-- The machine over the rows of a forest writes what the pass over that forest gives. By induction on the forest: a tree
-- is opened, its children are walked, it is closed, and the rest is walked.
-- Assumes nothing.
use Prim.Native.Nat.{ℕ, suc, ◌+◌, ◌-◌, ◌≤◌, ◌<◌}
use native.Mathlib.Omega.{arith}
use native.Mathlib.Numerals.{add-one}
use mathlib.Core.Path.{◌≡◌, refl, sym, ap, ◌∙◌, subst}
use mathlib.Core.Bool.{Bool, true, false, cond}
use mathlib.Core.List.{List, [], ◌∷◌}
use lib.Dec.{eqb}
use lib.ListN.{get_or, set}
use lib.Seq.{get_or_at, set_at, append_snoc}
use borrow.Author.Tests.{eq-eqb, ne_eqb}
use Rattle.plan.specs.Tree.{Forest, none, tree, count}
use Rattle.plan.specs.Table.{Table}
use Rattle.plan.specs.Change.{Act, delete, rename, replace, Change, insert, act, skip}
use Rattle.plan.specs.Open.{dist_at, size_at}
use Rattle.plan.proofs.Kit.{cond_elim}
use Rattle.plan.proofs.Columns.{count_beside}
use Rattle.plan.proofs.Standing.{mine}
use Rattle.plan.proofs.Pass.{Out, Pass, ahead, arrivals, both, turned, turn, pass}
use Rattle.pass_moves.proofs.Rows.{table_eq, rows_assoc, none-behind, rows_beside, tall_rows, tall_one, tall_is, tall_beside, past-rows, row_at}
use Rattle.pass_moves.specs.Rows.{◌⧺◌, one_row, rows, later_rows, Tall}
use Rattle.pass_way.specs.Machine.{State, state, value_at, sized, closed, passed, changed, child, step, Reach, stop, more}
use Rattle.pass_way.proofs.Machine.{state_eq, reach_trans, step_to}
use Rattle.pass_way.specs.Line.{Old}

cond₂ : {X Y : Type 0} (P : X → Y → Type 0) (m : Bool) {x x' : X} {y y' : Y} → P x y → P x' y'
    → P (cond m x x') (cond m y y')
cond₂ P true f g = f
cond₂ P false f g = g

-- there are o new rows, and what is open is among them
abbrev pub Good : (o j : ℕ) → Table → Type 0
Good o j u = Tall o u × (j < o)

-- the state behind the rows of a forest
abbrev pub after : (i o q j : ℕ) → Table → Out ℕ → State
after i o q j u y = state i (o + count y.0) q j (u ⧺ rows (o - j) y.0) y.1

after-ahead : (i o q j : ℕ) (u : Table) (f : Forest ℕ) (y : Out ℕ) → j ≤ o
    → after i (o + count f) q j (u ⧺ rows (o - j) f) y ≡ after i o q j u (ahead f y)
after-ahead i o q j u f y h =
    state_eq refl (omega (arith, count_beside f y.0)) refl refl
    (rows_assoc u (rows (o - j) f) (rows (o + count f - j) y.0)
    ∙ ap (λ (v : Table). u ⧺ v) (rows_beside (o - j) (o + count f - j) f y.0 (omega arith)))

-- ---- the next change is no insert for just this place
abbrev pub Ready : (b u : ℕ) → List (Change ℕ) → Type 0
Ready b u [] = Unit {0}
Ready b u (act p x ∷ cs) = Unit {0}
Ready b u (insert p q s ∷ cs) = mine b u (insert p q s) ≡ false

arrivals_ready : (b u n : ℕ) (go : Pass ℕ) → ((cs : List (Change ℕ)) → Ready b u cs → Ready n u (go cs).1)
    → (cs : List (Change ℕ)) → Ready n u (arrivals b u go cs).1
unfolding arrivals
arrivals_ready b u n go f [] = f [] tt
arrivals_ready b u n go f (act p x ∷ cs) = f (act p x ∷ cs) tt
arrivals_ready b u n go f (insert p q s ∷ cs) =
    cond_elim (λ (y : Out ℕ). Ready n u y.1) (mine b u (insert p q s)) _ _ (λ w. arrivals_ready b u n go f cs)
    (λ w. f (insert p q s ∷ cs) w)

abbrev Drop : Type 0
Drop = List (Change ℕ) → List (Change ℕ)

-- what the rest leaves, the tree leaves
module _ (P : List (Change ℕ) → Type 0) (a : ℕ) (S : Drop) (K R : Pass ℕ) (f : (l : List (Change ℕ)) → P (R l).1) where
  turned_ready : (x : Act ℕ) (cs : List (Change ℕ)) → P (turned x a S K R cs).1
  turned_ready delete cs = f (S cs)
  turned_ready (rename g) cs = f (K cs).1
  turned_ready (replace s) cs = f (S cs)

  turn_ready : (b : ℕ) (cs : List (Change ℕ)) → P (turn b a S K R cs).1
  turn_ready b [] = f (K []).1
  turn_ready b (insert p q s ∷ cs) = f (K (insert p q s ∷ cs)).1
  turn_ready b (act p x ∷ cs) =
      cond_elim (λ (y : Out ℕ). P y.1) (eqb p b) _ _ (λ w. turned_ready x cs) (λ w. f (K (act p x ∷ cs)).1)

-- the pass over a forest leaves no insert for the place behind it
pub pass_ready : (b u n : ℕ) (f : Forest ℕ) → n ≡ b + count f → (cs : List (Change ℕ)) → Ready n u (pass b u f cs).1
unfolding pass
pass_ready b u n none h cs =
    let e : n ≡ b = omega arith in rw e (arrivals_ready b u b (λ es. (none, es)) (λ es r. r) cs)
pass_ready b u n (tree a k r) h cs =
    let e : ℕ = suc b + count k in
    arrivals_ready b u n (turn b a (skip b e) (λ es. pass (suc b) (suc b) k es) (λ es. pass e u r es))
    (λ es z. turn_ready (Ready n u) a (skip b e) (λ es. pass (suc b) (suc b) k es) (λ es. pass e u r es)
    (λ es. pass_ready e u n r (omega arith) es) b es) cs

-- ---- the rows of the old table
module _ (t : Table) where
  -- the row of a tree, and the rows after it
  old-first : (b q : ℕ) (a : ℕ) (k r : Forest ℕ) (h : Old t b q (tree a k r))
      → later_rows b t ≡ one_row (b - q) (suc (count k)) a ⧺ ((rows 1 k ⧺ rows (b - q + suc (count k)) r) ⧺ h.behind)
  old-first b q a k r h = h.is

  kids-rest : (b q : ℕ) (a : ℕ) (k r : Forest ℕ) (h : Old t b q (tree a k r))
      → later_rows (suc b) t ≡ rows 1 k ⧺ (rows (b - q + suc (count k)) r ⧺ h.behind)
  kids-rest b q a k r h =
      let n : ℕ = suc (count k) in
      let rest : Table = rows (b - q + n) r in
      let v : Table = (rows 1 k ⧺ rest) ⧺ h.behind in
      ap (λ (x : ℕ). later_rows x t) (sym (add-one b))
      ∙ (past-rows b 1 t (one_row (b - q) n a) v (old-first b q a k r h) (tall_one (b - q) n a)
      ∙ rows_assoc (rows 1 k) rest h.behind)

  pub old-kids : (b q : ℕ) (a : ℕ) (k r : Forest ℕ) → Old t b q (tree a k r) → Old t (suc b) b k
  old-kids b q a k r h =
      let e : suc b - b ≡ 1 = omega arith in
      let v : Table = rows (b - q + suc (count k)) r ⧺ h.behind in
      record { behind = v; is = kids-rest b q a k r h ∙ ap (λ (d : ℕ). rows d k ⧺ v) (sym e) }

  pub old-rest : (b q : ℕ) (a : ℕ) (k r : Forest ℕ) → q ≤ b → Old t b q (tree a k r) → Old t (suc b + count k) q r
  old-rest b q a k r l h =
      let e : suc b + count k - q ≡ b - q + suc (count k) = omega arith in
      let v : Table = rows (b - q + suc (count k)) r ⧺ h.behind in
      record {
        behind = h.behind;
        is = past-rows (suc b) (count k) t (rows 1 k) v (kids-rest b q a k r h) (tall_rows 1 k)
            ∙ ap (λ (d : ℕ). rows d r ⧺ h.behind) (sym e);
      }

  old_row : (b q : ℕ) (a : ℕ) (k r : Forest ℕ) → Old t b q (tree a k r)
      → (dist_at t b ≡ b - q) × (size_at t b ≡ suc (count k)) × (value_at t b ≡ a)
  old_row b q a k r h = row_at b (b - q) (suc (count k)) a t _ (old-first b q a k r h)

  pub old-dist : (b q : ℕ) (a : ℕ) (k r : Forest ℕ) → Old t b q (tree a k r) → dist_at t b ≡ b - q
  old-dist b q a k r h = (old_row b q a k r h).0

  pub old-size : (b q : ℕ) (a : ℕ) (k r : Forest ℕ) → Old t b q (tree a k r) → size_at t b ≡ suc (count k)
  old-size b q a k r h = (old_row b q a k r h).1

  pub old_value : (b q : ℕ) (a : ℕ) (k r : Forest ℕ) → Old t b q (tree a k r) → value_at t b ≡ a
  old_value b q a k r h = (old_row b q a k r h).2

-- ---- the new rows
module _ {o j : ℕ} {u : Table} (g : Good o j u) where
  pub good_pasted : (f : Forest ℕ) → Good (o + count f) j (u ⧺ rows (o - j) f)
  good_pasted f = (tall_beside u (rows (o - j) f) g.0 (tall_rows (o - j) f), omega arith)

  pub good_opened : (s a : ℕ) → Good (suc o) o (u ⧺ one_row (o - j) s a)
  good_opened s a =
      (tall_is (add-one o) (tall_beside u (one_row (o - j) s a) g.0 (tall_one (o - j) s a)), omega arith)

  good_closed : (n a : ℕ) (k : Forest ℕ) → Good (suc o + count k) j (u ⧺ (one_row (o - j) n a ⧺ rows 1 k))
  good_closed n a k =
      let v : Table = one_row (o - j) n a in
      let h = tall_beside v (rows 1 k) (tall_one (o - j) n a) (tall_rows 1 k) in
      (tall_is (omega arith) (tall_beside u (v ⧺ rows 1 k) g.0 h), omega arith)

  -- the size of an open row is written behind its children
  sized_open : (d s n a : ℕ) (v : Table) → sized ((u ⧺ one_row d s a) ⧺ v) o n ≡ u ⧺ (one_row d n a ⧺ v)
  sized_open d s n a v =
      table_eq (append_snoc u.dist d v.dist)
      (ap (λ (l : List ℕ). set l o n) (append_snoc u.size s v.size)
      ∙ set_at u.size s v.size n o g.0.size)
      (append_snoc u.value a v.value)

  dist_open : (d s a : ℕ) (v : Table) → dist_at ((u ⧺ one_row d s a) ⧺ v) o ≡ d
  dist_open d s a v =
      ap (λ (l : List ℕ). get_or l o 0) (append_snoc u.dist d v.dist)
      ∙ get_or_at u.dist d v.dist 0 o g.0.dist

-- ---- the machine
module _ (t : Table) where
  -- the inserts in front
  arrivals_reach : (b n q j : ℕ) (go : Pass ℕ)
      → ((o : ℕ) (u : Table) (cs : List (Change ℕ)) → Good o j u → Ready b (suc q) cs
      → Reach t (state b o q j u cs) (after n o q j u (go cs)))
      → (o : ℕ) (u : Table) (cs : List (Change ℕ)) → Good o j u
      → Reach t (state b o q j u cs) (after n o q j u (arrivals b (suc q) go cs))
  unfolding arrivals step
  arrivals_reach b n q j go f o u [] g = f o u [] g tt
  arrivals_reach b n q j go f o u (act p x ∷ cs) g = f o u (act p x ∷ cs) g tt
  arrivals_reach b n q j go f o u (insert p r s ∷ cs) g =
      let here : State = state b o q j u (insert p r s ∷ cs) in
      let v : Table = u ⧺ rows (o - j) s in
      let e = after-ahead n o q j u s (arrivals b (suc q) go cs) (omega arith) in
      cond_elim (λ (y : Out ℕ). Reach t here (after n o q j u y)) (mine b (suc q) (insert p r s)) _ _
      (λ w.
      more (rw w (subst (Reach t (state b (o + count s) q j v cs)) e
      (arrivals_reach b n q j go f (o + count s) v cs (good_pasted g s)))))
      (λ w. f o u (insert p r s ∷ cs) g w)

  -- what the machine does with a forest
  abbrev pub Walks : (b q : ℕ) → Forest ℕ → Type 0
  Walks b q f = (j o : ℕ) (u : Table) (cs : List (Change ℕ)) → Good o j u
      → Reach t (state b o q j u cs) (after (b + count f) o q j u (pass b (suc q) f cs))

  module _ (b q : ℕ) (a : ℕ) (k r : Forest ℕ) (l : q < b) (h : Old t b q (tree a k r)) where
    abbrev e : ℕ
    e = suc b + count k

    module _ (room : b + suc (count k + count r) ≤ q + size_at t q) where
      -- no insert is next, and the row is a child of what is open
      to_child : (o j : ℕ) (u : Table) (cs : List (Change ℕ)) → Ready b (suc q) cs
          → step t (state b o q j u cs) ≡ child t (state b o q j u cs) cs
      unfolding step
      to_child o j u [] z = rw (ne_eqb b (q + size_at t q) (omega arith))
      to_child o j u (act p x ∷ cs) z = rw (ne_eqb b (q + size_at t q) (omega arith))
      to_child o j u (insert p y s ∷ cs) z = rw (z, ne_eqb b (q + size_at t q) (omega arith))

    -- the children are done
    to_closed : (o j : ℕ) (u : Table) (cs : List (Change ℕ)) → Ready e (suc b) cs
        → step t (state e o b j u cs) ≡ closed t (state e o b j u cs)
    unfolding step
    to_closed o j u [] z = rw (old-size t b q a k r h, eq-eqb e (b + suc (count k)) (omega arith))
    to_closed o j u (act p x ∷ cs) z = rw (old-size t b q a k r h, eq-eqb e (b + suc (count k)) (omega arith))
    to_closed o j u (insert p y s ∷ cs) z = rw (z, old-size t b q a k r h, eq-eqb e (b + suc (count k)) (omega arith))

    closes : (o j s c : ℕ) (u : Table) (k' : Forest ℕ) (cs : List (Change ℕ)) → Good o j u
        → closed t (after e (suc o) b o (u ⧺ one_row (o - j) s c) (k', cs))
        ≡ state e (suc o + count k') q j (u ⧺ (one_row (o - j) (suc (count k')) c ⧺ rows 1 k')) cs
    closes o j s c u k' cs g =
        let d : suc o - o ≡ 1 = omega arith in
        let n : suc o + count k' - o ≡ suc (count k') = omega arith in
        state_eq refl refl (omega (arith, old-dist t b q a k r h))
        (omega (arith, dist_open g (o - j) s c (rows (suc o - o) k')))
        (sized_open g (o - j) s (suc o + count k' - o) c (rows (suc o - o) k')
        ∙ (λ w. u ⧺ (one_row (o - j) (n w) c ⧺ rows (d w) k')))

    ends : (o j c : ℕ) (u : Table) (k' r' : Forest ℕ) (cs : List (Change ℕ)) → j ≤ o
        → after (e + count r) (suc o + count k') q j (u ⧺ (one_row (o - j) (suc (count k')) c ⧺ rows 1 k')) (r', cs)
        ≡ after (b + suc (count k + count r)) o q j u (tree c k' r', cs)
    ends o j c u k' r' cs m =
        let d : suc o + count k' - j ≡ o - j + suc (count k') = omega arith in
        let v : Table = one_row (o - j) (suc (count k')) c in
        state_eq (omega arith) (omega arith) refl refl
        (rows_assoc u (v ⧺ rows 1 k') (rows (suc o + count k' - j) r')
        ∙ (λ w. u ⧺ (v ⧺ (rows 1 k' ⧺ rows (d w) r'))))

    module _ (wk : Walks (suc b) b k) (wr : Walks e q r) where
      abbrev n : ℕ
      n = b + suc (count k + count r)

      abbrev K : Pass ℕ
      K es = pass (suc b) (suc b) k es

      abbrev R : Pass ℕ
      R es = pass e (suc q) r es

      both_reach : (j o c : ℕ) (u : Table) (cs : List (Change ℕ)) → Good o j u
          → Reach t (state (suc b) (suc o) b o (u ⧺ one_row (o - j) (size_at t b) c) cs) (after n o q j u (both c K R cs))
      both_reach j o c u cs g =
          let y : Out ℕ = K cs in
          let z : Out ℕ = R y.1 in
          let o' : ℕ = suc o + count y.0 in
          let s : ℕ = size_at t b in
          let v : Table = u ⧺ one_row (o - j) s c in
          let w : Table = u ⧺ (one_row (o - j) (suc (count y.0)) c ⧺ rows 1 y.0) in
          let all_in = pass_ready (suc b) (suc b) e k refl cs in
          reach_trans t (wk o (suc o) v cs (good_opened g s c))
          (step_to t (to_closed o' o (v ⧺ rows (suc o - o) y.0) y.1 all_in ∙ closes o j s c u y.0 y.1 g)
          (subst (Reach t (state e o' q j w y.1)) (ends o j c u y.0 z.0 z.1 (omega arith))
          (wr j o' w y.1 (good_closed g (suc (count y.0)) c y.0))))

      passed-reach : (j o : ℕ) (u : Table) (f : Forest ℕ) (cs cs₀ : List (Change ℕ)) → Good o j u
          → Reach t (passed t (state b o q j u cs₀) f cs) (after n o q j u (ahead f (R (skip b e cs))))
      passed-reach j o u f cs cs₀ g =
          let w : b + size_at t b ≡ e = omega (arith, old-size t b q a k r h) in
          let m : e + count r ≡ n = omega arith in
          let v : Table = u ⧺ rows (o - j) f in
          let es : List (Change ℕ) = skip b e cs in
          let o' : ℕ = o + count f in
          let last : State = after n o q j u (ahead f (R es)) in
          subst (λ (x : ℕ). Reach t (state x o' q j v (skip b x cs)) last) (sym w)
          (subst (Reach t (state e o' q j v es)) (after-ahead n o q j u f (R es) (omega arith))
          (subst (λ (x : ℕ). Reach t (state e o' q j v es) (after x o' q j v (R es))) m
          (wr j o' v es (good_pasted g f))))

      changed-reach : (j o : ℕ) (u : Table) (x : Act ℕ) (cs cs₀ : List (Change ℕ)) → Good o j u
          → Reach t (changed t (state b o q j u cs₀) x cs) (after n o q j u (turned x a (skip b e) K R cs))
      changed-reach j o u delete cs cs₀ g = passed-reach j o u none cs cs₀ g
      changed-reach j o u (rename f) cs cs₀ g = rw (old_value t b q a k r h) (both_reach j o (f a) u cs g)
      changed-reach j o u (replace s) cs cs₀ g = passed-reach j o u s cs cs₀ g

      child-reach : (j o : ℕ) (u : Table) (cs cs₀ : List (Change ℕ)) → Good o j u
          → Reach t (child t (state b o q j u cs₀) cs) (after n o q j u (turn b a (skip b e) K R cs))
      child-reach j o u [] cs₀ g = rw (old_value t b q a k r h) (both_reach j o a u [] g)
      child-reach j o u (insert p z s ∷ cs) cs₀ g =
          rw (old_value t b q a k r h) (both_reach j o a u (insert p z s ∷ cs) g)
      child-reach j o u (act p x ∷ cs) cs₀ g =
          cond₂ (λ (s : State) (y : Out ℕ). Reach t s (after n o q j u y)) (eqb p b) (changed-reach j o u x cs cs₀ g)
          (rw (old_value t b q a k r h) (both_reach j o a u (act p x ∷ cs) g))

      tree-reach : n ≤ q + size_at t q → (j o : ℕ) (u : Table) (cs : List (Change ℕ)) → Good o j u → Ready b (suc q) cs
          → Reach t (state b o q j u cs) (after n o q j u (turn b a (skip b e) K R cs))
      tree-reach room j o u cs g z = step_to t (to_child room o j u cs z) (child-reach j o u cs cs g)

  -- the machine goes over a forest
  pub walks : (b q : ℕ) (f : Forest ℕ) → q < b → Old t b q f → b + count f ≤ q + size_at t q → Walks b q f
  unfolding pass
  walks b q none l h room j o u cs g =
      arrivals_reach b (b + 0) q j (λ es. (none, es))
      (λ o u cs g z.
      subst (Reach t (state b o q j u cs))
      (state_eq (omega arith) (omega arith) refl refl (sym (none-behind u (o - j)))) stop)
      o u cs g
  walks b q (tree a k r) l h room j o u cs g =
      let e : ℕ = suc b + count k in
      let s : size_at t b ≡ suc (count k) = old-size t b q a k r h in
      arrivals_reach b (b + suc (count k + count r)) q j _
      (λ o u cs g z. tree-reach b q a k r l h
      (walks (suc b) b k (omega arith) (old-kids t b q a k r h) (omega arith))
      (walks e q r (omega arith) (old-rest t b q a k r (omega arith) h) (omega arith)) room j o u cs g z)
      o u cs g
