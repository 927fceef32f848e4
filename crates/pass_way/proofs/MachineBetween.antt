-- The machine between two changes: the pass over rows that no change is for, and the ways of the machine to the place
-- of the next change.
-- Assumes nothing.
use Prim.Native.Nat.{ℕ, zero, suc, ◌+◌, ◌-◌, ◌≤◌, ◌<◌}
use native.Mathlib.Omega.{arith}
use mathlib.Core.Path.{◌≡◌, refl, sym, ap, ◌∙◌, subst}
use mathlib.Core.Bool.{false}
use mathlib.Core.List.{List, [], ◌∷◌}
use lib.Dec.{eqb, eqb→eq}
use lib.ListN.{length}
use borrow.Author.Tests.{eq-eqb, ne_eqb}
use Rattle.plan.specs.Tree.{Forest, none, tree, count}
use Rattle.plan.specs.Table.{Table, TreeOf}
use Rattle.plan.specs.Change.{Change, insert, act, location, skip}
use Rattle.plan.specs.Open.{dist_at, size_at}
use Rattle.plan.proofs.Kit.{false_of, T_and, cond_elim, by_place}
use Rattle.plan.proofs.Standing.{mine}
use Rattle.plan.proofs.Pass.{Pass, arrivals, both, turn, pass}
use Rattle.pass_moves.specs.Rows.{◌⧺◌, rows}
use Rattle.pass_moves.proofs.Rows.{rows_assoc, rows_beside}
use Rattle.pass_way.specs.Machine.{State, state, value_at, sized, opened, closed, child, advanced, stepped, step, Reach, stop, more, Aim, Away}
use Rattle.pass_way.proofs.Machine.{state_eq, steps, reach-steps, step_forward}
use Rattle.pass_way.specs.Line.{Old}
use Rattle.pass_way.proofs.MachineTable.{root-size}

-- ---- the pass over a forest whose rows all lie before the next change
abbrev pub Far : ℕ → List (Change ℕ) → Type 0
Far n [] = Unit {0}
Far n (c ∷ cs) = n < location c

pub far_less : (m n : ℕ) (cs : List (Change ℕ)) → m ≤ n → Far n cs → Far m cs
far_less m n [] h f = tt
far_less m n (c ∷ cs) h f = omega arith

pub no_insert : (b u p q : ℕ) (s : Forest ℕ) → b < p → mine b u (insert p q s) ≡ false
no_insert b u p q s h =
    false_of (mine b u (insert p q s)) (λ t. omega (arith, eqb→eq p b (T_and (eqb p b) (eqb (suc q) u) t).0))

arrivals_far : (b u : ℕ) (go : Pass ℕ) (cs : List (Change ℕ)) → Far b cs → arrivals b u go cs ≡ go cs
unfolding arrivals
arrivals_far b u go [] h = refl
arrivals_far b u go (act p x ∷ cs) h = refl
arrivals_far b u go (insert p q s ∷ cs) h = rw (no_insert b u p q s h)

turn_far : (b a : ℕ) (S : List (Change ℕ) → List (Change ℕ)) (K R : Pass ℕ) (cs : List (Change ℕ)) → Far b cs
    → turn b a S K R cs ≡ both a K R cs
turn_far b a S K R [] h = refl
turn_far b a S K R (insert p q s ∷ cs) h = refl
turn_far b a S K R (act p x ∷ cs) h = rw (ne_eqb p b (omega arith))

both_far : (a : ℕ) (K R : Pass ℕ) (k r : Forest ℕ) (cs : List (Change ℕ)) → K cs ≡ (k, cs) → R cs ≡ (r, cs)
    → both a K R cs ≡ (tree a k r, cs)
both_far a K R k r cs e w = rw (e, w)

pub pass_far : (b u n : ℕ) (f : Forest ℕ) (cs : List (Change ℕ)) → n ≡ b + count f → Far n cs → pass b u f cs ≡ (f, cs)
unfolding pass
pass_far b u n none cs e h = arrivals_far b u (λ ds. (none, ds)) cs (far_less b n cs (omega arith) h)
pass_far b u n (tree a k r) cs e h =
    let m : ℕ = suc b + count k in
    let near = far_less b n cs (omega arith) h in
    let K : Pass ℕ = λ ds. pass (suc b) (suc b) k ds in
    let R : Pass ℕ = λ ds. pass m u r ds in
    arrivals_far b u (turn b a (skip b m) K R) cs near
    ∙ (turn_far b a (skip b m) K R cs near
    ∙ both_far a K R k r cs
    (pass_far (suc b) (suc b) m k cs refl (far_less m n cs (omega arith) h)) (pass_far m u n r cs (omega arith) h))

-- ---- on the way to the place of the next change
not_mine : (p q i r p' q' : ℕ) (s : Forest ℕ) → p' ≡ p → q' ≡ q → Away p q i r → mine i (suc r) (insert p' q' s) ≡ false
not_mine p q i r p' q' s e w v =
    false_of (mine i (suc r) (insert p' q' s))
    (λ t.
    let y = T_and (eqb p' i) (eqb (suc q') (suc r)) t in
    let m = eqb→eq p' i y.0 in
    let n = eqb→eq (suc q') (suc r) y.1 in
    v (omega arith) (omega arith))

module _ (t : Table) where
  module _ (p q i r : ℕ) (v : Away p q i r) where
    pub step_close : (o j : ℕ) (u : Table) (cs : List (Change ℕ)) → Aim t p q cs → i ≡ r + size_at t r
        → step t (state i o r j u cs) ≡ closed t (state i o r j u cs)
    unfolding step
    step_close o j u [] h e = rw (eq-eqb i (r + size_at t r) e)
    step_close o j u (act p' x ∷ cs) h e = rw (eq-eqb i (r + size_at t r) e)
    step_close o j u (insert p' q' s ∷ cs) h e =
        rw (not_mine p q i r p' q' s h.0 h.1 v, eq-eqb i (r + size_at t r) e)

    pub step_open : (o j : ℕ) (u : Table) (cs : List (Change ℕ)) → Aim t p q cs → (i ≡ r + size_at t r → ⊥)
        → r < i → dist_at t i ≡ i - r → step t (state i o r j u cs) ≡ opened t (state i o r j u cs) (value_at t i) cs
    unfolding step
    step_open o j u [] h e l d = rw (ne_eqb i (r + size_at t r) e)
    step_open o j u (act p' x ∷ cs) h e l d =
        let n : p' ≡ i → ⊥ = λ w.
        let m : i ≡ p = omega arith in
        v m (omega (arith, ap (λ (z : ℕ). dist_at t z) m)) in
        rw (ne_eqb i (r + size_at t r) e, ne_eqb p' i n)
    step_open o j u (insert p' q' s ∷ cs) h e l d =
        rw (not_mine p q i r p' q' s h.0 h.1 v, ne_eqb i (r + size_at t r) e)

  -- behind the root's last row a change that is not for there has no place
  stays : (p q i : ℕ) → Away p q i 0 → i ≡ 0 + size_at t 0 → (n o j : ℕ) (u : Table) (cs : List (Change ℕ))
      → Aim t p q cs → (steps t n (state i o 0 j u cs)).left ≡ cs
  stays p q i v e zero o j u cs h = refl
  stays p q i v e (suc n) o j u cs h =
      let z : 0 - dist_at t 0 ≡ 0 = omega arith in
      let j' : ℕ = j - dist_at u j in
      let y : step t (state i o 0 j u cs) ≡ state i o 0 j' (sized u j (o - j)) cs =
      step_close p q i 0 v o j u cs h e ∙ state_eq refl refl z refl refl in
      ap (λ (s : State). (steps t n s).left) y ∙ stays p q i v e n o j' (sized u j (o - j)) cs h

  pub not_root : (p q i r : ℕ) → TreeOf t → Away p q i r → i ≡ r + size_at t r
      → (o j : ℕ) (u : Table) (cs : List (Change ℕ)) → Aim t p q cs
      → (s : State) → Reach t (state i o r j u cs) s → s.left ≡ [] → r ≡ 0 → ⊥
  not_root p q i r h v e o j u [] a s m w z =
      v (omega (arith, root-size h, ap (λ (y : ℕ). size_at t y) z)) (omega arith)
  not_root p q i r h v e o j u (c ∷ cs) a s m w z =
      let n = reach-steps t m in
      let y : (steps t n.0 (state i o 0 j u (c ∷ cs))).left ≡ c ∷ cs =
      stays p q i (subst (Away p q i) z v) (subst (λ (x : ℕ). i ≡ x + size_at t x) z e) n.0 o j u (c ∷ cs) a in
      let f : (steps t n.0 (state i o r j u (c ∷ cs))).left ≡ c ∷ cs =
      subst (λ (x : ℕ). (steps t n.0 (state i o x j u (c ∷ cs))).left ≡ c ∷ cs) (sym z) y in
      let k : [] ≡ c ∷ cs = sym w ∙ (sym (ap (λ (x : State). x.left) n.1) ∙ f) in
      let b : ◌≡◌ {A = ℕ} 0 1 = cc in
      omega arith

  pub far : (p q n : ℕ) (cs : List (Change ℕ)) → Aim t p q cs → n < p → Far n cs
  far p q n [] h l = tt
  far p q n (insert p' q' s ∷ cs) h l = omega arith
  far p q n (act p' x ∷ cs) h l = omega arith

  -- a row and its subtree, alone
  pub old-alone : (b q a : ℕ) (k r : Forest ℕ) → Old t b q (tree a k r) → Old t b q (tree a k none)
  old-alone b q a k r h =
      let d : ℕ = b - q + suc (count k) in
      let f : Forest ℕ = tree a k none in
      record {
        behind = rows d r ⧺ h.behind;
        is = h.is
            ∙ (ap (λ (v : Table). v ⧺ h.behind) (sym (rows_beside (b - q) d f r (omega arith)))
            ∙ rows_assoc (rows (b - q) f) (rows d r) h.behind);
      }

-- ---- a change for a row before the next row is never made
not-here : (b u p q : ℕ) (s : Forest ℕ) → p < b → mine b u (insert p q s) ≡ false
not-here b u p q s h =
    false_of (mine b u (insert p q s)) (λ t. omega (arith, eqb→eq p b (T_and (eqb p b) (eqb (suc q) u) t).0))

pub some_left : {s : List (Change ℕ)} (c : Change ℕ) (cs : List (Change ℕ)) → s ≡ c ∷ cs → s ≡ [] → ⊥
some_left c cs e w =
    let k : [] ≡ c ∷ cs = sym w ∙ e in
    let b : ◌≡◌ {A = ℕ} 0 1 = cc in
    omega arith

module _ (t : Table) where
  child-past : (s : State) (c : Change ℕ) (cs : List (Change ℕ)) → location c < s.row
      → (child t s (c ∷ cs)).left ≡ c ∷ cs
  child-past s (insert p q f) cs l = refl
  child-past s (act p x) cs l = rw (ne_eqb p s.row (omega arith))

  advanced-past : (s : State) (c : Change ℕ) (cs : List (Change ℕ)) → s.left ≡ c ∷ cs → location c < s.row
      → (advanced t s).left ≡ c ∷ cs
  advanced-past s c cs e l =
      cond_elim (λ (z : State). z.left ≡ c ∷ cs) (eqb s.row (s.parent + size_at t s.parent)) _ _ (λ w. e)
      (λ w. ap (λ (ds : List (Change ℕ)). (child t s ds).left) e ∙ child-past s c cs l)

  stepped-past : (s : State) (c : Change ℕ) (cs : List (Change ℕ)) → s.left ≡ c ∷ cs → location c < s.row
      → (stepped t s (c ∷ cs)).left ≡ c ∷ cs
  stepped-past s (act p x) cs e l = advanced-past s (act p x) cs e l
  stepped-past s (insert p q f) cs e l =
      rw (not-here s.row (suc s.parent) p q f l) (advanced-past s (insert p q f) cs e l)

  step_past : (s : State) (c : Change ℕ) (cs : List (Change ℕ)) → s.left ≡ c ∷ cs → location c < s.row
      → (step t s).left ≡ c ∷ cs
  unfolding step
  step_past s c cs e l = ap (λ (ds : List (Change ℕ)). (stepped t s ds).left) e ∙ stepped-past s c cs e l

  reach-past : {s v : State} → Reach t s v → (c : Change ℕ) (cs : List (Change ℕ)) → s.left ≡ c ∷ cs
      → location c < s.row → v.left ≡ c ∷ cs
  reach-past stop c cs e l = e
  reach-past (more {s = s} p) c cs e l =
      reach-past p c cs (step_past s c cs e l) (omega (arith, step_forward t s))

  one_on : {s v : State} (c : Change ℕ) (cs : List (Change ℕ)) → s.left ≡ c ∷ cs → v.left ≡ [] → Reach t s v
      → Reach t (step t s) v
  one_on c cs e w stop = absurd (some_left c cs e w)
  one_on c cs e w (more p) = p

  pub not-past : {s v : State} (c : Change ℕ) (cs : List (Change ℕ)) → s.left ≡ c ∷ cs → v.left ≡ [] → Reach t s v
      → location c < s.row → ⊥
  not-past c cs e w r l = some_left c cs (reach-past r c cs e l) w

  -- a row that is to be walked next lies before the place of the next change
  pub before-place : (p q i r o j : ℕ) (u : Table) (cs : List (Change ℕ)) → Aim t p q cs → Away p q i r
      → (i ≡ r + size_at t r → ⊥) → r < i → dist_at t i ≡ i - r → i < length t.size → (v : State)
      → Reach t (state i o r j u cs) v → v.left ≡ [] → i < p
  before-place p q i r o j u [] h a e l d m v m' w = omega arith
  before-place p q i r o j u (act p' x ∷ cs) h a e l d m v m' w =
      by_place i p (λ z. z)
      (λ z. absurd (a z (omega (arith, ap (λ (y : ℕ). dist_at t y) z))))
      (λ z. absurd (not-past (act p' x) cs refl w m' (omega arith)))
  before-place p q i r o j u (insert p' q' s ∷ cs) h a e l d m v m' w =
      by_place i p (λ z. z)
      (λ z.
      let c : Change ℕ = insert p' q' s in
      let n = one_on c cs refl w m' in
      let y = step_open t p q i r a o j u (c ∷ cs) h e l d in
      absurd (not-past c cs refl w (subst (λ (x : State). Reach t x v) y n) (omega arith)))
      (λ z. absurd (not-past (insert p' q' s) cs refl w m' (omega arith)))
