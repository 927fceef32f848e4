-- The plan of a table: the columns of the painted tree that a sound table spells are the table's own, in any paint.
-- Assumes nothing.
use Prim.Native.Nat.{ℕ, suc, ◌+◌, ◌≤◌}
use native.Mathlib.Omega.{arith}
use mathlib.Core.Path.{◌≡◌, refl, sym, ap, ◌∙◌}
use mathlib.Core.List.{List, [], ◌∷◌, map}
use lib.Dec.{T, eqb, eqb→eq}
use lib.ListN.{length, take, drop, get_or, length-take, length-drop}
use Rattle.plan.specs.Tree.{Forest, none, tree, count, sizes, dists, relabel}
use Rattle.plan.specs.Table.{Table, table_of, spelled, even, sound, run}
use Rattle.plan.specs.Paint.{Origin, painted, plan, bare, written}
use Rattle.plan.proofs.Kit.{T_and}
use Rattle.plan.proofs.Columns.{length-sizes, sizes-relabel, dists-relabel}
use Rattle.plan.proofs.Readback.{read_back, spelled-relabel, count-spelled}
use Rattle.plan.proofs.Sound.{sound-tree}

module _ (o : ℕ → Origin) where
  bare-painted : (i : ℕ) (vs : List ℕ) → map bare (painted o i vs) ≡ vs
  unfolding painted
  bare-painted i [] = refl
  bare-painted i (v ∷ vs) = rw (bare-painted (suc i) vs)

  length-painted : (i : ℕ) (vs : List ℕ) → length (painted o i vs) ≡ length vs
  unfolding painted
  length-painted i [] = refl
  length-painted i (v ∷ vs) = ap suc (length-painted (suc i) vs)

  -- without the paint
  pub plan-bare : (t : Table) → relabel bare (plan o t) ≡ spelled t.size t.value
  unfolding plan
  plan-bare t = rw (spelled-relabel bare t.size (painted o 0 t.value), bare-painted 0 t.value)

  pub plan-written : (t : Table) → T (sound t) → written (plan o t) ≡ t
  plan-written t h =
      let w = sound-tree t h in
      let f : Forest ℕ = tree w.root w.kids none in
      let e : spelled t.size t.value ≡ f =
      ap (λ (x : Table). spelled x.size x.value) w.is-table ∙ read_back f in
      ap table_of (plan-bare t ∙ e) ∙ sym w.is-table

  pub plan-sizes : (t : Table) → T (sound t) → sizes (plan o t) ≡ t.size
  plan-sizes t h = sym (sizes-relabel bare (plan o t)) ∙ ap (λ (x : Table). x.size) (plan-written t h)

  pub plan-dists : (t : Table) → T (sound t) → dists 1 (plan o t) ≡ t.dist
  plan-dists t h = sym (dists-relabel bare 1 (plan o t)) ∙ ap (λ (x : Table). x.dist) (plan-written t h)

  pub plan-length : (t : Table) → T (sound t) → count (plan o t) ≡ length t.size
  plan-length t h = sym (length-sizes (plan o t)) ∙ ap length (plan-sizes t h)

  -- a run has as many rows as the size at its start says
  pub run-count : (i : Table) (f : ℕ) → T (even i) → f + get_or i.size f 0 ≤ length i.size
      → count (plan o (run i f)) ≡ get_or i.size f 0
  unfolding plan even run
  run-count i f h l =
      let n : ℕ = get_or i.size f 0 in
      let w = T_and (eqb (length i.dist) (length i.size)) (eqb (length i.value) (length i.size)) h in
      let e = eqb→eq (length i.value) (length i.size) w.1 in
      let s : length (take n (drop f i.size)) ≡ n = simp (length-take, length-drop) (omega arith) in
      let v : length (take n (drop f i.value)) ≡ n = simp (length-take, length-drop) (omega arith) in
      count-spelled (take n (drop f i.size)) (painted o 0 (take n (drop f i.value)))
      (omega (arith, s, v, length-painted 0 (take n (drop f i.value)))) ∙ s
