-- A column, read as a function of the row, that holds a list from row b on: `Holds f xs b`.
-- Assumes nothing.
use Prim.Native.Nat.{ℕ, zero, suc, ◌+◌, ◌<◌}
use native.Mathlib.Omega.{arith}
use mathlib.Core.Path.{◌≡◌, ap, ◌∙◌, subst}
use mathlib.Core.List.{List, [], ◌∷◌, ◌++◌}
use lib.ListN.{length}
use lib.Seq.{ext_get_or}
use Rattle.plan.specs.Axes.{cell}

abbrev pub Holds : (ℕ → ℕ) → List ℕ → ℕ → Type 0
Holds f [] b = Unit {0}
Holds f (x ∷ xs) b = (f b ≡ x) × Holds f xs (b + 1)

module _ (f : ℕ → ℕ) where
  pub holds_from : (xs : List ℕ) (b c : ℕ) → b ≡ c → Holds f xs b → Holds f xs c
  holds_from xs b c e h = subst (λ (k : ℕ). Holds f xs k) e h

  pub holds_append : (xs ys : List ℕ) (b : ℕ) → Holds f xs b → Holds f ys (b + length xs) → Holds f (xs ++ ys) b
  holds_append [] ys b h k = holds_from ys (b + 0) b (omega arith) k
  holds_append (x ∷ xs) ys b h k =
      let n : ℕ = length xs in
      (h.0, holds_append xs ys (b + 1) h.1 (holds_from ys (b + suc n) (b + 1 + n) (omega arith) k))

  pub holds_front : (xs ys : List ℕ) (b : ℕ) → Holds f (xs ++ ys) b → Holds f xs b
  holds_front [] ys b h = tt
  holds_front (x ∷ xs) ys b h = (h.0, holds_front xs ys (b + 1) h.1)

  pub holds_back : (xs ys : List ℕ) (b c : ℕ) → b + length xs ≡ c → Holds f (xs ++ ys) b → Holds f ys c
  holds_back [] ys b c e h = holds_from ys b c (omega arith) h
  holds_back (x ∷ xs) ys b c e h = holds_back xs ys (b + 1) c (omega arith) h.1

  pub holds_cell : (xs : List ℕ) (b : ℕ) → Holds f xs b → (i : ℕ) → i < length xs → f (b + i) ≡ cell xs i
  holds_cell [] b h i l = absurd (omega arith)
  holds_cell (x ∷ xs) b h zero l = ap f (omega arith) ∙ h.0
  holds_cell (x ∷ xs) b h (suc i) l = ap f (omega arith) ∙ holds_cell xs (b + 1) h.1 i (omega arith)

  pub cells_hold : (xs : List ℕ) (b : ℕ) → ((i : ℕ) → i < length xs → f (b + i) ≡ cell xs i) → Holds f xs b
  cells_hold [] b h = tt
  cells_hold (x ∷ xs) b h = (
    ap f (omega arith) ∙ h zero (omega arith),
    cells_hold xs (b + 1) (λ i l. ap f (omega arith) ∙ h (suc i) (omega arith)),
  )

-- a list is what its cells hold, and the only one of its length
pub holds_itself : (l xs : List ℕ) → l ≡ xs → Holds (cell l) xs 0
holds_itself l xs e =
    cells_hold (cell l) xs 0 (λ i p. ap (cell l) (omega arith) ∙ ap (λ (m : List ℕ). cell m i) e)

pub holds_only : (l xs : List ℕ) → length l ≡ length xs → Holds (cell l) xs 0 → l ≡ xs
holds_only l xs e h =
    ext_get_or 0 l xs e (λ i p. ap (cell l) (omega arith) ∙ holds_cell (cell l) xs 0 h i (omega arith))
