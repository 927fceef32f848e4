-- One record met on the way along the old rows: it is lost, or renames a row, and the rows go on as they are; or rows
-- of its run come at its location, and then the old rows go on.
-- Assumes nothing.
use Prim.Native.Nat.{ℕ, suc, ◌+◌, ◌-◌, ◌≤◌, ◌<◌}
use native.Mathlib.Omega.{arith}
use mathlib.Core.Path.{◌≡◌, refl, ap, ◌∙◌, subst}
use mathlib.Core.Bool.{true, false}
use mathlib.Core.List.{List, [], ◌∷◌, ◌++◌}
use lib.Dec.{T}
use borrow.Author.Tests.{eqb-true}
use Rattle.plan.specs.declared.Record.{Record}
use Rattle.plan.specs.Tree.{Forest, sizes}
use Rattle.plan.specs.Table.{Table, even}
use Rattle.plan.specs.Change.{Change, rename, act}
use Rattle.plan.specs.Paint.{Origin, old, new, Painted}
use Rattle.plan.specs.Records.{is_rename, change, changes, known, runs}
use Rattle.plan.specs.Mapping.{gone, fate}
use Rattle.plan.proofs.Trimmed.{trimmed, all_trimmed}
use Rattle.plan.proofs.Merge.{Chain, chain_sooner}
use Rattle.plan.proofs.Mapping.{rows_of, track, Honest, fate-passed}
use Rattle.plan.proofs.Origins.{changes_honest}
use Rattle.plan.proofs.Following.{track_renamed, lost_dropped, kept-taken}
use Rattle.plan.specs.Way.{vain, brought, taken, taken_from}
use Rattle.plan.proofs.FourKinds.{is-rename}
use Rattle.plan.proofs.Said.{Says, says}

module _ (t : Forest Painted) (i : Table) (n : ℕ) (h : T (even i)) where
  -- the changes still to come, where the rows from a up to b are gone and the next record is the k-th
  abbrev pub Left : (a b k : ℕ) → List Record → List (Change Painted)
  Left a b k rs = trimmed t a b (changes i k rs)

  -- where the old rows go on at q, the changes to come follow one another
  abbrev pub Goes : (q a b k : ℕ) → List Record → Type 0
  Goes q a b k rs = Chain t q n (Left a b k rs)

  -- and these origins are still to come
  abbrev pub still_to_come : (q a b k : ℕ) → List Record → List Origin
  still_to_come q a b k rs = track t q n (Left a b k rs)

  module _ (q a b k : ℕ) (r : Record) (rs : List Record) (v : T (known r)) (u : T (runs i r))
      (g : Goes q a b k (r ∷ rs)) where
    c : Change Painted
    c = change i k r

    said : Says t (sizes t) i.size k r c
    unfolding c
    said = says t i k r h u v

    -- lost
    pub lost-left : vain a b r ≡ true → Left a b k (r ∷ rs) ≡ Left a b (suc k) rs
    unfolding changes c
    lost-left e = lost_dropped t a b c (changes i (suc k) rs) (said.is_lost a b ∙ e)

    -- not lost
    kept-left : vain a b r ≡ false
        → Left a b k (r ∷ rs) ≡ c ∷ Left (taken_from r) (taken_from r + taken (sizes t) r) (suc k) rs
    unfolding changes c
    kept-left e =
        kept-taken t a b c (changes i (suc k) rs) (said.is_lost a b ∙ e)
        ∙ rw (said.from_row, said.to_row)

    pub kept-ahead : vain a b r ≡ false → q ≤ r.location
    kept-ahead e = subst (λ (z : ℕ). q ≤ z) said.at-location (rw (kept-left e) at g).0

    -- a rename: the rows go on as they are
    module _ (e : vain a b r ≡ false) (m : is_rename r ≡ true) where
      kind : r.kind ≡ 3
      kind = eqb-true r.kind 3 m

      abbrev named : Painted → Painted
      named x = record { value = r.value; origin = x.origin }

      renamed-left : Left a b k (r ∷ rs) ≡ act r.location (rename named) ∷ Left 0 0 (suc k) rs
      unfolding c
      renamed-left = kept-left e ∙ rw (is-rename i k r kind, kind)

      renamed_chain : Chain t (suc r.location) n (Left 0 0 (suc k) rs)
      renamed_chain = (rw renamed-left at g).1

      pub renamed-goes : Goes q 0 0 (suc k) rs
      renamed-goes =
          chain_sooner t q (suc r.location) n (Left 0 0 (suc k) rs) (omega (arith, kept-ahead e)) renamed_chain

      pub renamed-come : still_to_come q a b k (r ∷ rs) ≡ still_to_come q 0 0 (suc k) rs
      renamed-come =
          ap (track t q n) renamed-left
          ∙ track_renamed t q n r.location named (Left 0 0 (suc k) rs) (kept-ahead e) renamed_chain

    -- any other: its run comes at its location, and the old rows go on behind what it takes away
    module _ (e₀ : vain a b r ≡ false) (m : is_rename r ≡ false) where
      abbrev pub next : ℕ
      next = r.location + taken (sizes t) r

      pub other_goes : Goes next (taken_from r) (taken_from r + taken (sizes t) r) (suc k) rs
      other_goes = rw (said.goes_on m) at (rw (kept-left e₀) at g).1

      abbrev pub rest : List Origin
      rest = still_to_come next (taken_from r) (taken_from r + taken (sizes t) r) (suc k) rs

      pub other-come : still_to_come q a b k (r ∷ rs)
          ≡ rows_of old q (r.location - q) ++ (rows_of (new k) 0 (brought i.size r) ++ rest)
      other-come = ap (track t q n) (kept-left e₀) ∙ rw (said.at-location, said.comes m, said.goes_on m)

  -- a row that was passed is gone
  pub passed-fate : (q a b k : ℕ) (rs : List Record) (j x : ℕ) → Goes q a b k rs → x < q
      → fate (still_to_come q a b k rs) j x ≡ gone
  passed-fate q a b k rs j x g l =
      fate-passed t q n (Left a b k rs) j x g
      (all_trimmed t (Honest t) a b (changes i k rs) (changes_honest t i k rs)) l

  -- behind the last record the old rows go on to the end
  pub last-come : (q a b k : ℕ) → still_to_come q a b k [] ≡ rows_of old q (n - q)
  unfolding changes trimmed
  last-come q a b k = refl
