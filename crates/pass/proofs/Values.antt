-- What a list over plain values, without paint, means is the painted result, read without its paint; and the values
-- fit the table's tree as the painted changes do.
-- Assumes nothing.
use Prim.Native.Nat.{ℕ, zero, suc, ◌-◌}
use native.Mathlib.Omega.{arith}
use mathlib.Core.Path.{◌≡◌, refl, sym, ap, ◌∙◌, subst}
use mathlib.Core.Bool.{Bool, true, false, cond}
use mathlib.Core.List.{List, [], ◌∷◌, map}
use lib.Dec.{T, ltb}
use borrow.Author.Tests.{eqb-true, ne_eqb, eq-eqb}
use Rattle.plan.specs.declared.Record.{Record}
use Rattle.std.specs.Prelude.{None}
use Rattle.plan.specs.Tree.{Forest, none, tree, count, from, children, relabel}
use Rattle.plan.specs.Table.{Table, spelled, run, TreeOf}
use Rattle.plan.specs.Change.{delete, rename, replace, insert, act, opens, open_place, meaning}
use Rattle.plan.specs.Paint.{Origin, old, new, Painted, painted, plan, bare}
use Rattle.plan.specs.Records.{is_delete, is_insert, is_rename, change, changes, located, PassAll}
use Rattle.plan.specs.Call.{result}
use Rattle.plan.proofs.Kit.{all_map, cond_elim}
use Rattle.plan.proofs.Columns.{count-relabel}
use Rattle.plan.proofs.Readback.{read_back, spelled-relabel}
use Rattle.plan.proofs.Cut.{Fit}
use Rattle.plan.proofs.Fits.{Reads, as_insert, as_act, ReadsAll, nil, cons, fits}
use Rattle.plan.proofs.Tested.{all_located, all_ordered}
use Rattle.plan.proofs.Relabel as relabelled
use Rattle.plan.proofs.Relabel.{Like, like_insert, like_delete, like_rename, like_replace, LikeAll, meaning-relabel}
use Rattle.pass.specs.Values.{plain, by_kind, valued, values}

-- ---- kind by kind
module _ (i : Table) (r : Record) where
  pub valued-delete : r.kind ≡ 1 → valued i r ≡ act r.location delete
  unfolding valued
  valued-delete e = rw (eq-eqb r.kind 1 e)

  pub valued-insert : r.kind ≡ 2 → valued i r ≡ insert r.location r.parent (plain (run i r.from))
  unfolding valued
  valued-insert e = rw (ne_eqb r.kind 1 (λ z. omega arith), eq-eqb r.kind 2 e)

  pub valued-rename : r.kind ≡ 3 → valued i r ≡ act r.location (rename (λ a. r.value))
  unfolding valued
  valued-rename e =
      rw (ne_eqb r.kind 1 (λ z. omega arith), ne_eqb r.kind 2 (λ z. omega arith), eq-eqb r.kind 3 e)

  pub valued-replace : r.kind ≡ 4 → valued i r ≡ act r.location (replace (plain (run i r.from)))
  unfolding valued
  valued-replace e =
      rw (
        ne_eqb r.kind 1 (λ z. omega arith),
        ne_eqb r.kind 2 (λ z. omega arith),
        ne_eqb r.kind 3 (λ z. omega arith),
      )

-- ---- without paint
unpainted : (o : ℕ → Origin) (k : ℕ) (vs : List ℕ) → map bare (painted o k vs) ≡ vs
unfolding painted
unpainted o k [] = refl
unpainted o k (v ∷ vs) = ap (λ (l : List ℕ). v ∷ l) (unpainted o (suc k) vs)

pub plan-plain : (o : ℕ → Origin) (t : Table) → relabel bare (plan o t) ≡ plain t
unfolding plan
plan-plain o t =
    spelled-relabel bare t.size (painted o 0 t.value) ∙ ap (spelled t.size) (unpainted o 0 t.value)

-- another value, the same paint
abbrev revalued : ℕ → Painted → Painted
revalued v a = record { value = v; origin = a.origin }

like_kind : (d n m : Bool) (p q v : ℕ) (s : Forest Painted) (s' : Forest ℕ) → relabel bare s ≡ s'
    → Like bare (by_kind d n m (act p delete) (insert p q s) (act p (rename (revalued v))) (act p (replace s)))
    (by_kind d n m (act p delete) (insert p q s') (act p (rename (λ a. v))) (act p (replace s')))
like_kind true n m p q v s s' e = like_delete p
like_kind false true m p q v s s' e =
    subst (λ (f : Forest ℕ). Like bare (insert p q s) (insert p q f)) e (like_insert p q s)
like_kind false false true p q v s s' e = like_rename p _ _ (λ a. refl)
like_kind false false false p q v s s' e =
    subst (λ (f : Forest ℕ). Like bare (act p (replace s)) (act p (replace f))) e (like_replace p s)

change_like : (i : Table) (k : ℕ) (r : Record) → Like bare (change i k r) (valued i r)
unfolding change valued
change_like i k r =
    let s : Table = run i r.from in
    like_kind (is_delete r) (is_insert r) (is_rename r) r.location r.parent r.value (plan (new k) s) _
    (plan-plain (new k) s)

pub changes_like : (i : Table) (k : ℕ) (l : List Record) → LikeAll bare (changes i k l) (values i l)
unfolding changes
changes_like i k [] = relabelled.nil
changes_like i k (r ∷ rs) = relabelled.cons (change_like i k r) (changes_like i (suc k) rs)

-- what the list means, without paint
pub result-plain : (t i : Table) (l : List Record) → relabel bare (result t i l) ≡ meaning (values i l) (plain t)
unfolding result
result-plain t i l =
    meaning-relabel bare (changes_like i 0 l) (plan old t) ∙ ap (meaning (values i l)) (plan-plain old t)

pub plain-tree : {t : Table} (h : TreeOf t) → plain t ≡ tree h.root h.kids none
plain-tree h = ap plain h.is-table ∙ read_back (tree h.root h.kids none)

-- ---- tests 5, 7 and 8 say of the values what they say of the painted changes
value_reads : (i : Table) (r : Record) → Reads r (valued i r)
unfolding valued
value_reads i r =
    cond_elim (Reads r) (is_delete r) _ _
    (λ d. let k = eqb-true r.kind 1 d in
    as_act delete (ne_eqb r.kind 2 (λ z. omega arith)) (λ u w. subst T (ne_eqb r.kind 3 (λ z. omega arith)) w))
    (λ d. cond_elim (Reads r) (is_insert r) _ _ (λ n. as_insert _ n)
    (λ n. cond_elim (Reads r) (is_rename r) _ _ (λ m. as_act _ n (λ u w. u)) (λ m. as_act _ n (λ u w. subst T m w))))

values_read : (i : Table) (l : List Record) → ReadsAll l (values i l)
values_read i [] = nil
values_read i (r ∷ rs) = cons (value_reads i r) (values_read i rs)

module _ {A B : Type 0} (φ : A → B) where
  opens-relabel : (f : Forest A) (x : ℕ) → opens (relabel φ f) x ≡ opens f x
  unfolding opens
  opens-relabel none x = refl
  opens-relabel (tree a k r) zero = refl
  opens-relabel (tree a k r) (suc x) = rw (count-relabel φ k, opens-relabel r (x - count k))

  push : (m : Bool) (y z : Forest A) → relabel φ (cond m y z) ≡ cond m (relabel φ y) (relabel φ z)
  push true y z = refl
  push false y z = refl

  from-relabel : (f : Forest A) (p : ℕ) → from (relabel φ f) p ≡ relabel φ (from f p)
  unfolding from
  from-relabel none p = refl
  from-relabel (tree a k r) zero = refl
  from-relabel (tree a k r) (suc p) =
      rw (count-relabel φ k, from-relabel k p, from-relabel r (p - count k)) (sym (push (ltb p (count k)) _ _))

  children-relabel : (f : Forest A) → children (relabel φ f) ≡ relabel φ (children f)
  children-relabel none = refl
  children-relabel (tree a k r) = refl

  place-relabel : (f : Forest A) (p q : ℕ) → open_place (relabel φ f) p q ≡ open_place f p q
  unfolding open_place
  place-relabel f p q =
      rw (from-relabel f q, children-relabel (from f q), opens-relabel (children (from f q)) (p - suc q))

  located-relabel : (f : Forest A) (r : Record) → located (relabel φ f) r ≡ located f r
  unfolding located
  located-relabel f r = rw (count-relabel φ f, place-relabel f r.location r.parent)

pub values_fit : (t i : Table) (l : List Record) → PassAll (plan old t) i None l → Fit 0 0 (plain t) (values i l)
values_fit t i l h =
    let p : Forest Painted = plan old t in
    let same : (r : Record) → located p r ≡ located (plain t) r =
    λ r. sym (located-relabel bare p r) ∙ ap (λ (f : Forest ℕ). located f r) (plan-plain old t) in
    fits (plain t) (values_read i l)
    (all_map (λ r. T (located p r)) (λ r. T (located (plain t) r)) (λ r w. subst T (same r) w) l
    (all_located p i None l h))
    (all_ordered (plan old t) i None l h)
