-- Which records are vain: as records, as changes, and for the pass. And what a record does to the rows, as the answer
-- of `meet` says.
-- Assumes nothing.
use Prim.Native.Nat.{ℕ, ◌+◌, ◌-◌}
use native.Mathlib.Omega.{arith}
use mathlib.Core.Path.{◌≡◌, refl, sym, subst}
use mathlib.Core.Bool.{Bool, true, false, cond, ◌&&◌}
use mathlib.Core.List.{List, [], ◌∷◌}
use lib.Dec.{leb, ltb, ltb→lt}
use borrow.Author.Tests.{ne_eqb, eqb-true}
use Rattle.plan.specs.declared.Record.{Record}
use Rattle.plan.specs.declared.Stand.{Stand}
use Rattle.plan.specs.declared.Meeting.{Meeting}
use Rattle.plan.specs.declared.Meeting.TheVariants.{Vain, Renamed, Here}
use Rattle.plan.specs.Tree.{Forest}
use Rattle.plan.specs.Table.{Table}
use Rattle.plan.specs.Change.{delete, rename, replace, Change, insert, act, lost, skip}
use Rattle.plan.specs.Records.{is_delete, is_insert, is_rename}
use Rattle.plan.specs.Way.{vain, taken_from, removes_rows, stand, meeting}
use Rattle.plan.proofs.Kit.{T_and, false_of, cond_elim}
use Rattle.pass.specs.Values.{valued}

lost-kind : (b e p q : ℕ) (s : Forest ℕ) (g : ℕ → ℕ) (d n m : Bool) → (d ≡ true → n ≡ false)
    → lost b e (cond d (act p delete) (cond n (insert p q s) (cond m (act p (rename g)) (act p (replace s)))))
    ≡ cond n (leb b q && ltb q e) (ltb b p && ltb p e)
lost-kind b e p q s g true n m f = rw (f refl)
lost-kind b e p q s g false true m f = refl
lost-kind b e p q s g false false true f = refl
lost-kind b e p q s g false false false f = refl

pub lost-valued : (b e : ℕ) (i : Table) (r : Record) → lost b e (valued i r) ≡ vain b e r
unfolding valued
lost-valued b e i r =
    lost-kind b e r.location r.parent _ _ (is_delete r) (is_insert r) (is_rename r)
    (λ d. let k = eqb-true r.kind 1 d in ne_eqb r.kind 2 (λ z. omega arith))

pub skip-lost : (b e : ℕ) (c : Change ℕ) (cs : List (Change ℕ)) → lost b e c ≡ true → skip b e (c ∷ cs) ≡ skip b e cs
unfolding skip
skip-lost b e c cs w = rw w

pub skip-kept : (b e : ℕ) (c : Change ℕ) (cs : List (Change ℕ)) → lost b e c ≡ false → skip b e (c ∷ cs) ≡ c ∷ cs
unfolding skip
skip-kept b e c cs w = rw w

-- nothing is lost with no rows
none-lost : (c : Change ℕ) → lost 0 0 c ≡ false
none-lost (insert p q s) =
    false_of (leb 0 q && ltb q 0) (λ h. omega (arith, ltb→lt q 0 (T_and (leb 0 q) (ltb q 0) h).1))
none-lost (act p x) =
    false_of (ltb 0 p && ltb p 0) (λ h. omega (arith, ltb→lt p 0 (T_and (ltb 0 p) (ltb p 0) h).1))

pub skip-none : (cs : List (Change ℕ)) → skip 0 0 cs ≡ cs
unfolding skip
skip-none [] = refl
skip-none (c ∷ cs) = rw (none-lost c)

-- ---- what the answer of `meet` says of the record
module _ (s : Stand) (r : Record) (e n : ℕ) where
  -- where the rows go on behind a record that changes them
  abbrev pub behind_it : Stand
  behind_it =
      stand e (s.out.0 + (r.location - s.row.0) + n) (taken_from r) (cond (removes_rows r) e 0)

  abbrev pub Told : Meeting → Type 0
  Told Vain = vain s.first.0 s.end.0 r ≡ true
  Told (Renamed s') =
      (vain s.first.0 s.end.0 r ≡ false) × (r.kind ≡ 3) × (s' ≡ stand s.row.0 s.out.0 0 0)
  Told (Here p m s') =
      (vain s.first.0 s.end.0 r ≡ false) × (is_rename r ≡ false) × (p.0 ≡ r.location) × (m ≡ n)
      × (s' ≡ behind_it)

  told : Told (meeting s r e n)
  told =
      cond_elim Told (vain s.first.0 s.end.0 r) _ _ (λ v. v)
      (λ v. cond_elim Told (is_rename r) _ _ (λ m. (v, eqb-true _ 3 m, refl)) (λ m. (v, m, refl, refl, refl)))

  pub tells : {m : Meeting} → m ≡ meeting s r e n → Told m
  tells w = subst Told (sym w) told
