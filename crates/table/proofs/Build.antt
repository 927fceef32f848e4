-- Rows that all have parents are a sound table's: the tree is built from the sizes, and its columns are the table's.
-- Assumes nothing.
use Rattle.std.proofs.Common.{◌≡◌, ℕ, zero, suc, ◌+◌, ◌<◌, ◌≤◌, T, List, [], ◌∷◌, ◌++◌, length, sym, refl, ap, subst, arith}
use native.Mathlib.Decide.{dec_lt}
use Rattle.plan.specs.Tree.{Forest, none, tree, count, sizes, dists, labels}
use Rattle.plan.specs.Table.{table, most_rows, sound}
use Rattle.plan.specs.Axes.{cell}
use Rattle.plan.proofs.Kit.{by_place}
use Rattle.plan.proofs.Columns.{length-sizes, length-dists, length-labels}
use Rattle.plan.proofs.Cells.{Holds, holds_from, holds_append, holds_only}
use Rattle.plan.proofs.Sound.{tree-sound}
use Rattle.table.specs.Rows.{Inner, Fine, Row, Rows}

-- two rows cannot both be the parent of r
pub inner_once : (s : ℕ → ℕ) (r x y : ℕ) → Inner s r x → Inner s r y → x ≡ y
inner_once s r x y p q =
    by_place x y (λ l. absurd (omega (arith, p.closed y l q.before))) (λ e. e)
    (λ l. absurd (omega (arith, q.closed x l p.before)))

-- the rows from b to e are the columns of a forest whose trees are children of p; v are the values
record Built (s d v : ℕ → ℕ) (p b e : ℕ) : Type 0 where
  trees : Forest ℕ
  many : b + count trees ≡ e
  sized : Holds s (sizes trees) b
  placed : (k : ℕ) → p + k ≡ b → Holds d (dists k trees) b
  named : Holds v (labels trees) b
  ends : (z : ℕ) → b ≤ z → z < e → z + s z ≤ e

module _ (s d v : ℕ → ℕ) where
  built_none : (p b e : ℕ) → b ≡ e → Built s d v p b e
  built_none p b e q =
      record {
        trees = none;
        many = omega arith;
        sized = tt;
        placed = λ k h. tt;
        named = tt;
        ends = λ z u w. absurd (omega arith);
      }

  -- one column of a row, its children up to m and what follows
  joined : (f : ℕ → ℕ) (x : ℕ) (xs ys : List ℕ) (b m : ℕ) → f b ≡ x → b + 1 + length xs ≡ m
      → Holds f xs (b + 1) → Holds f ys m → Holds f (x ∷ xs ++ ys) b
  joined f x xs ys b m h l hx hy =
      (h, holds_append f xs ys (b + 1) hx (holds_from f ys m (b + 1 + length xs) (sym l) hy))

  -- a row b, its children up to m, and what follows up to e
  built_tree : (p b m e : ℕ) → b + s b ≡ m → p + d b ≡ b → m ≤ e
      → Built s d v b (b + 1) m → Built s d v p m e → Built s d v p b e
  built_tree p b m e hm hd le k r =
      let n : ℕ = count k.trees in
      record {
        trees = tree (v b) k.trees r.trees;
        many = omega (arith, k.many, r.many);
        sized =
            joined s (suc n) (sizes k.trees) (sizes r.trees) b m (omega (arith, k.many))
            (omega (arith, length-sizes k.trees, k.many)) k.sized r.sized;
        placed = λ j h.
            joined d j (dists 1 k.trees) (dists (j + suc n) r.trees) b m (omega arith)
            (omega (arith, length-dists 1 k.trees, k.many)) (k.placed 1 refl)
            (r.placed (j + suc n) (omega (arith, k.many)));
        named =
            joined v (v b) (labels k.trees) (labels r.trees) b m refl
            (omega (arith, length-labels k.trees, k.many)) k.named r.named;
        ends = λ z u w.
            by_place z m
            (λ l. by_place z b (λ i. absurd (omega arith)) (λ i. omega (arith, ap s i))
            (λ i. omega (arith, k.ends z (omega arith) l)))
            (λ i. r.ends z (omega arith) w) (λ i. r.ends z (omega arith) w);
      }

  module _ (n : ℕ) (rows : (z : ℕ) → 0 < z → z < n → Row s d z) where
    -- row b, where all since p are closed and p is not, is a child of p
    child : (p b : ℕ) → p < b → b < n → b < p + s p → ((z : ℕ) → p < z → z < b → z + s z ≤ b) → Fine s d b p
    child p b l m o c =
        let w : Row s d b = rows b (omega arith) m in
        subst (λ (q : ℕ). Fine s d b q)
        (inner_once s b w.parent p w.inner (record { before = l; past = o; closed = c })) w.fine

    build : (fuel p b e : ℕ) → e ≤ b + fuel → p < b → b ≤ e → e ≡ p + s p → e ≤ n
        → ((z : ℕ) → p < z → z < b → z + s z ≤ b) → Built s d v p b e
    build zero p b e f l m eq en c = built_none p b e (omega arith)
    build (suc fuel) p b e f l m eq en c =
        elim (dec_lt b e) [
          | no k ↦ built_none p b e (omega arith)
          | yes k ↦
              let w : Fine s d b p = child p b l (omega arith) (omega arith) c in
              let kids : Built s d v b (b + 1) (b + s b) =
              build fuel b (b + 1) (b + s b) (omega arith) (omega arith) (omega arith) refl (omega arith)
              (λ z u x. absurd (omega arith)) in
              let rest : Built s d v p (b + s b) e =
              build fuel p (b + s b) e (omega arith) (omega arith) (omega arith) eq en
              (λ z u x. by_place z b (λ i. omega (arith, c z u i)) (λ i. omega (arith, ap s i))
              (λ i. kids.ends z (omega arith) x)) in
              built_tree p b (b + s b) e refl w.far (omega arith) kids rest
        ]

-- a table whose rows all have parents is sound, whatever its values
pub rows-sound : (D S L : List ℕ) → length D ≡ length S → length L ≡ length S → 1 ≤ length S → length S ≤ most_rows
    → Rows (cell S) (cell D) (length S) (length S) → T (sound (table D S L))
rows-sound D S L hd hv some few h =
    let n : ℕ = length S in
    let k : Built (cell S) (cell D) (cell L) 0 1 n =
    build (cell S) (cell D) (cell L) n h.row n 0 1 n (omega arith) (omega arith) some (omega (arith, h.root-size))
    (omega arith) (λ z u v. absurd (omega arith)) in
    let f : Forest ℕ = tree (cell L 0) k.trees none in
    let all : (g : ℕ → ℕ) (x : ℕ) (xs : List ℕ) → g 0 ≡ x → Holds g xs 1 → Holds g (x ∷ xs ++ []) 0 =
    λ g x xs e i. joined (cell S) (cell D) (cell L) g x xs [] 0 (0 + 1 + length xs) e refl i tt in
    let dist : D ≡ dists 1 f =
    holds_only D (dists 1 f) (omega (arith, length-dists 1 f, k.many))
    (all (cell D) 1 (dists 1 k.trees) h.root-dist (k.placed 1 refl)) in
    let size : S ≡ sizes f =
    holds_only S (sizes f) (omega (arith, length-sizes f, k.many))
    (all (cell S) (suc (count k.trees)) (sizes k.trees) (omega (arith, h.root-size, k.many)) k.sized) in
    let value : L ≡ labels f =
    holds_only L (labels f) (omega (arith, length-labels f, k.many))
    (all (cell L) (cell L 0) (labels k.trees) refl k.named) in
    tree-sound (table D S L)
    (record {
      root = cell L 0;
      kids = k.trees;
      is-table = λ i. table (dist i) (size i) (value i);
      few = omega (arith, k.many);
    })
