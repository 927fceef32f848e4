-- A rename is a matter of values alone: the machine that has a rename for a row ahead goes where the machine goes that
-- has the new value in its table.
-- Assumes nothing.
use Prim.Native.Nat.{ℕ, suc, ◌+◌, ◌-◌, ◌≤◌, ◌<◌}
use native.Mathlib.Omega.{arith}
use mathlib.Core.Path.{◌≡◌, refl, sym, ap, ◌∙◌, subst}
use mathlib.Core.Bool.{Bool, true, false, cond}
use mathlib.Core.List.{List, [], ◌∷◌}
use lib.Dec.{eqb}
use lib.ListN.{get_or}
use borrow.Author.Tests.{eq-eqb, ne_eqb}
use Rattle.plan.specs.Table.{Table}
use Rattle.plan.specs.Change.{Act, delete, rename, replace, Change, insert, act}
use Rattle.plan.specs.Open.{size_at}
use Rattle.plan.proofs.Kit.{cond_elim, by_place}
use Rattle.plan.proofs.Standing.{mine}
use Rattle.pass_way.specs.Machine.{State, state, value_at, pasted, opened, closed, changed, child, advanced, stepped, step, Reach, stop, more}
use Rattle.pass_way.proofs.Machine.{step_to, step_forward, reach_forward}
use Rattle.pass_way.proofs.MachineBetween.{Far, far_less, no_insert, some_left}
use Rattle.pass_way.specs.Walk.{valuing}

module _ (t : Table) (l : List ℕ) where
  -- ---- a step where the values agree
  module _ (s : State) (e : get_or l s.row 0 ≡ value_at t s.row) where
    changed-same : (x : Act ℕ) (cs : List (Change ℕ)) → changed (valuing t l) s x cs ≡ changed t s x cs
    changed-same delete cs = refl
    changed-same (rename m) cs = ap (λ (a : ℕ). opened t s (m a) cs) e
    changed-same (replace f) cs = refl

    child-same : (cs : List (Change ℕ)) → child (valuing t l) s cs ≡ child t s cs
    child-same [] = ap (λ (a : ℕ). opened t s a []) e
    child-same (insert p q f ∷ cs) = ap (λ (a : ℕ). opened t s a (insert p q f ∷ cs)) e
    child-same (act p x ∷ cs) =
        λ w. cond (eqb p s.row) (changed-same x cs w) (ap (λ (a : ℕ). opened t s a (act p x ∷ cs)) e w)

    advanced-same : advanced (valuing t l) s ≡ advanced t s
    advanced-same =
        λ w. cond (eqb s.row (s.parent + size_at t s.parent)) (closed t s) (child-same s.left w)

    stepped_same : (cs : List (Change ℕ)) → stepped (valuing t l) s cs ≡ stepped t s cs
    stepped_same [] = advanced-same
    stepped_same (act p x ∷ cs) = advanced-same
    stepped_same (insert p q f ∷ cs) =
        λ w. cond (mine s.row (suc s.parent) (insert p q f)) (pasted s f s.row cs) (advanced-same w)

    pub step_same : step (valuing t l) s ≡ step t s
    unfolding step
    step_same = stepped_same s.left

  -- from row n on the values agree
  abbrev pub Agree : ℕ → Type 0
  Agree n = (k : ℕ) → n ≤ k → get_or l k 0 ≡ value_at t k

  pub reach_agree : {s v : State} → Reach t s v → Agree s.row → Reach (valuing t l) s v
  reach_agree stop h = stop
  reach_agree (more {s = s} p) h =
      step_to (valuing t l) (step_same s (h s.row (omega arith)))
      (reach_agree p (λ k m. h k (omega (arith, step_forward t s))))

  -- ---- a rename ahead
  -- the state with the changes cs left
  abbrev pub leaving : List (Change ℕ) → State → State
  leaving cs s = state s.row s.out s.parent s.under s.new cs

  -- no change is for the next row
  abbrev plain : List (Change ℕ) → State → State
  plain cs s =
      cond (eqb s.row (s.parent + size_at t s.parent)) (closed t (leaving cs s))
      (opened t (leaving cs s) (get_or l s.row 0) cs)

  step-plain : (s : State) (cs : List (Change ℕ)) → Far s.row cs → step (valuing t l) (leaving cs s) ≡ plain cs s
  unfolding step
  step-plain s [] h = refl
  step-plain s (insert p q f ∷ cs) h = rw (no_insert s.row (suc s.parent) p q f h)
  step-plain s (act p x ∷ cs) h = rw (ne_eqb p s.row (λ w. omega arith))

  step-act : (s : State) (p : ℕ) (x : Act ℕ) (cs : List (Change ℕ)) → s.left ≡ act p x ∷ cs
      → step t s ≡ cond (eqb s.row (s.parent + size_at t s.parent)) (closed t s) (child t s (act p x ∷ cs))
  unfolding step
  step-act s p x cs e =
      ap (stepped t s) e
      ∙ ap (λ (z : State). cond (eqb s.row (s.parent + size_at t s.parent)) (closed t s) z) (ap (child t s) e)

  module _ (p a : ℕ) (cs : List (Change ℕ)) (far : Far p cs) (here : get_or l p 0 ≡ a)
      (others : (k : ℕ) → (k ≡ p → ⊥) → get_or l k 0 ≡ value_at t k) where
    -- where it leads: without the rename to the same end, and there is a new row for row p
    abbrev Ahead : State → State → Type 0
    Ahead s v = Reach (valuing t l) (leaving cs s) v × (s.out + (p - s.row) < v.out)

    far-here : (n : ℕ) → n ≤ p → Far n cs
    far-here n h = far_less n p cs h far

    module _ (s v : State) (e : s.left ≡ act p (rename (λ x. a)) ∷ cs) (m : s.row ≤ p)
        (ih : (step t s).left ≡ act p (rename (λ x. a)) ∷ cs → (step t s).row ≤ p → Ahead (step t s) v)
        (on : Reach t (step t s) v) where
      -- the open row is closed
      at-end : eqb s.row (s.parent + size_at t s.parent) ≡ true → Ahead s v
      at-end w =
          let y : step t s ≡ closed t s = step-act s p (rename (λ x. a)) cs e ∙ rw w in
          let z : step (valuing t l) (leaving cs s) ≡ leaving cs (closed t s) =
          step-plain s cs (far-here s.row m) ∙ rw w in
          let r : (step t s).row ≡ s.row = ap (λ (x : State). x.row) y in
          let o : (step t s).out ≡ s.out = ap (λ (x : State). x.out) y in
          let h = ih (ap (λ (x : State). x.left) y ∙ e) (omega arith) in
          (step_to (valuing t l) (z ∙ ap (leaving cs) (sym y)) h.0, omega (arith, h.1))

      -- the next row is opened, before row p
      before : eqb s.row (s.parent + size_at t s.parent) ≡ false → s.row < p → Ahead s v
      before w n =
          let c : List (Change ℕ) = act p (rename (λ x. a)) ∷ cs in
          let y : step t s ≡ opened t s (value_at t s.row) (act p (rename (λ x. a)) ∷ cs) =
          step-act s p (rename (λ x. a)) cs e ∙ rw (w, ne_eqb p s.row (λ i. omega arith)) in
          let z : step (valuing t l) (leaving cs s) ≡ opened t (leaving cs s) (value_at t s.row) cs =
          step-plain s cs (far-here s.row m)
          ∙ rw w (ap (λ (x : ℕ). opened t (leaving cs s) x cs) (others s.row (λ i. omega arith))) in
          let r : (step t s).row ≡ suc s.row = ap (λ (x : State). x.row) y in
          let o : (step t s).out ≡ suc s.out = ap (λ (x : State). x.out) y in
          let h = ih (ap (λ (x : State). x.left) y) (omega arith) in
          (step_to (valuing t l) (z ∙ ap (leaving cs) (sym y)) h.0, omega (arith, h.1))

      -- row p is opened
      at_row : eqb s.row (s.parent + size_at t s.parent) ≡ false → s.row ≡ p → Ahead s v
      at_row w n =
          let y : step t s ≡ opened t s a cs =
          step-act s p (rename (λ x. a)) cs e ∙ rw (w, eq-eqb p s.row (sym n)) in
          let z : step (valuing t l) (leaving cs s) ≡ opened t (leaving cs s) a cs =
          step-plain s cs (far-here s.row m)
          ∙ rw w (ap (λ (x : ℕ). opened t (leaving cs s) x cs) (ap (λ (x : ℕ). get_or l x 0) n ∙ here)) in
          let g : Reach t (opened t s a cs) v = subst (λ (x : State). Reach t x v) y on in (
            step_to (valuing t l) z (reach_agree g (λ k i. others k (λ j. omega arith))),
            omega (arith, (reach_forward t g).1),
          )

      one_more : Ahead s v
      one_more =
          let b : Bool = eqb s.row (s.parent + size_at t s.parent) in
          cond_elim (λ (x : Unit {0}). Ahead s v) b tt tt at-end
          (λ w. by_place s.row p (before w) (at_row w) (λ i. absurd (omega arith)))

    pub rename-ahead : {s v : State} → Reach t s v → s.left ≡ act p (rename (λ x. a)) ∷ cs → v.left ≡ []
        → s.row ≤ p → Ahead s v
    rename-ahead stop e w m = absurd (some_left (act p (rename (λ x. a))) cs e w)
    rename-ahead {v = v} (more {s = s} r) e w m = one_more s v e m (λ f n. rename-ahead r f w n) r
