-- The root stays: what a list that passed leads to is again one tree, and where it has at most 65,535 rows its table is
-- sound.
-- Assumes nothing.
use Prim.Native.Nat.{ℕ, zero, suc, ◌-◌, ◌≤◌, ◌<◌}
use native.Mathlib.Omega.{arith}
use mathlib.Core.Path.{◌≡◌, refl, ap, ◌∙◌}
use mathlib.Core.Bool.{◌&&◌, ◌||◌}
use mathlib.Core.List.{List, [], ◌∷◌}
use lib.Dec.{T, ltb, ltb→lt}
use Rattle.plan.specs.declared.Record.{Record}
use Rattle.std.specs.Prelude.{None}
use Rattle.plan.specs.Tree.{Forest, none, tree, count, at, relabel}
use Rattle.plan.specs.Table.{Table, sound, most_rows}
use Rattle.plan.specs.Change.{delete, rename, replace, Change, insert, act, removes, acted, joined, single, meaning}
use Rattle.plan.specs.Paint.{Painted, old, plan, bare, written}
use Rattle.plan.specs.Records.{is_rename, changes, located}
use Rattle.plan.specs.Call.{result}
use Rattle.plan.proofs.Kit.{T_and, T-or, cond_elim, All}
use Rattle.plan.proofs.Columns.{count-relabel}
use Rattle.plan.proofs.Sound.{sound-tree, tree-sound, one_table}
use Rattle.plan.proofs.Planned.{plan-written}
use Rattle.plan.proofs.Fits.{Reads, as_insert, as_act, ReadsAll, nil, cons, changes_read}
use Rattle.plan.proofs.Tested.{PassAll, all_located}

module _ {A : Type 0} where
  -- a change that takes the root away is none of these
  abbrev Safe : Change A → Type 0
  Safe (insert p q s) = Unit {0}
  Safe (act p x) = T (removes x) → 0 < p

  -- a forest of one tree, and what is left of it when something in it changes
  pub data One : Forest A → Type 0 where
    one : (a : A) (k : Forest A) → One (tree a k none)

  below_root : (g : Forest A → Forest A) (a : A) (k : Forest A) (p : ℕ) → One (at g (tree a k none) (suc p))
  unfolding at
  below_root g a k p =
      cond_elim One (ltb p (count k)) _ _ (λ e. one a (at g k p)) (λ e. one a k)

  single_one : (t : Forest A) (c : Change A) → One t → Safe c → One (single c t)
  unfolding at
  single_one t (insert p zero s) (one a k) h = one a _
  single_one t (insert p (suc q) s) (one a k) h = below_root (joined (p - suc (suc q)) s) a k q
  single_one t (act zero delete) (one a k) h = absurd (omega (arith, h tt))
  single_one t (act zero (rename f)) (one a k) h = one (f a) k
  single_one t (act zero (replace s)) (one a k) h = absurd (omega (arith, h tt))
  single_one t (act (suc p) x) (one a k) h = below_root (acted x) a k p

  meaning_one : (t : Forest A) (cs : List (Change A)) → One t → All Safe cs → One (meaning cs t)
  meaning_one t [] o h = o
  meaning_one t (c ∷ cs) o h = single_one (meaning cs t) c (meaning_one t cs o h.1) h.0

  -- a record that passed test 5 is safe
  located_safe : (t : Forest A) {r : Record} {c : Change A} → Reads r c → T (located t r) → Safe c
  unfolding located
  located_safe t (as_insert s i) h = tt
  located_safe t {r} (as_act x i n) h = λ m.
      let v : T (ltb r.location (count t) && (is_rename r || ltb 0 r.location)) = rw i at h in
      T-or (is_rename r) (ltb 0 r.location) (λ z. absurd (n m z)) (λ z. ltb→lt 0 r.location z)
      (T_and (ltb r.location (count t)) (is_rename r || ltb 0 r.location) v).1

  all_safe : (t : Forest A) {rs : List Record} {cs : List (Change A)} → ReadsAll rs cs
      → All (λ r. T (located t r)) rs → All Safe cs
  all_safe t nil h = tt
  all_safe t (cons w ws) h = (located_safe t w h.0, all_safe t ws h.1)

-- the labels say nothing of it
after_first : Forest ℕ → Forest ℕ
after_first none = none
after_first (tree a k r) = r

bare_one : (f : Forest Painted) (a : ℕ) (k : Forest ℕ) → relabel bare f ≡ tree a k none → One f
unfolding after_first
bare_one none a k e = let z = ap count e in absurd (omega arith)
bare_one (tree b l none) a k e = one b l
bare_one (tree b l (tree c m r)) a k e = let z = ap count (ap after_first e) in absurd (omega arith)

one_sound : (f : Forest Painted) → One f → count f ≤ most_rows → T (sound (written f))
one_sound f (one a k) h =
    tree-sound (written f)
    (record { root = bare a; kids = relabel bare k; is-table = refl; few = omega (arith, count-relabel bare k) })

-- the tree of a sound table
pub plan_one : (t : Table) → T (sound t) → One (plan old t)
plan_one t h =
    let w = sound-tree t h in
    let e = plan-written old t h ∙ w.is-table in
    let f = relabel bare (plan old t) in
    let g = tree w.root w.kids none in
    bare_one (plan old t) w.root w.kids
    (one_table f g (ap (λ (x : Table). x.size) e) (ap (λ (x : Table). x.value) e))

module _ (t i : Table) (l : List Record) (h : T (sound t)) (p : PassAll (plan old t) i None l) where
  pub result_one : One (result t i l)
  unfolding result
  result_one =
      meaning_one (plan old t) (changes i 0 l) (plan_one t h)
      (all_safe (plan old t) (changes_read i 0 l) (all_located (plan old t) i None l p))

  -- the new table is sound
  pub result-sound : count (result t i l) ≤ most_rows → T (sound (written (result t i l)))
  result-sound m = one_sound (result t i l) result_one m
