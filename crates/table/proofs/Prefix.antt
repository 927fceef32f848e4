-- Tables that agree on their first rows: what a row says is the same in both, and right rows can be gone on with.
-- Assumes nothing.
use Rattle.std.proofs.Common.{◌≡◌, ℕ, zero, suc, ◌+◌, ◌-◌, ◌<◌, ◌≤◌, true, false, eqb, List, [], ◌∷◌, length, take, sym, refl, ap, ◌∙◌, subst, arith, length-take, get_or-take, ext_get_or, eq-eqb, ne_eqb}
use native.Mathlib.Decide.{ℕ_discrete}
use Rattle.plan.specs.Table.{most_rows}
use Rattle.plan.specs.Axes.{cell}
use Rattle.table.specs.Rows.{Open, Inner, Fine, Row, Rows, Rooted}
use Rattle.table.specs.Shape.{Shaped, Begun}
use Rattle.table.proofs.Build.{inner_once, rows-sound}
use Rattle.table.proofs.Parents.{shape_lengths, shape_rows}
use Rattle.table.proofs.Upward.{Up, above, not_root, found, next-rows, next_open}

-- two columns that agree before k
abbrev Same : ℕ → (ℕ → ℕ) → (ℕ → ℕ) → Type 0
Same k f g = (z : ℕ) → z < k → f z ≡ g z

same_cells : (k : ℕ) (l m : List ℕ) → take k l ≡ take k m → Same k (cell l) (cell m)
same_cells k l m e z p = sym (get_or-take k l z 0 p) ∙ ap (λ (t : List ℕ). cell t z) e ∙ get_or-take k m z 0 p

same-take : (k : ℕ) (l m : List ℕ) → length l ≡ length m → Same k (cell l) (cell m) → take k l ≡ take k m
same-take k l m e h =
    ext_get_or 0 (take k l) (take k m) (omega (arith, length-take k l, length-take k m))
    (λ i p. let q : i < k = omega (arith, length-take k l) in
    get_or-take k l i 0 q ∙ h i q ∙ sym (get_or-take k m i 0 q))

row_same : (s d t e : ℕ → ℕ) (r k : ℕ) → r < k → Same k s t → Same k d e → Row s d r → Row t e r
row_same s d t e r k l hs hd w =
    let q : ℕ = w.parent in
    let b : q < k = omega (arith, w.inner.before) in
    record {
      parent = q;
      inner = record {
        before = w.inner.before;
        past = omega (arith, w.inner.past, hs q b);
        closed = λ z u v. omega (arith, w.inner.closed z u v, hs z (omega arith));
      };
      fine = record {
        far = omega (arith, w.fine.far, hd r l);
        some = omega (arith, w.fine.some, hs r l);
        inside = omega (arith, w.fine.inside, hs r l, hs q b);
      };
    }

rows_same : (s d t e : ℕ → ℕ) (n r : ℕ) → 0 < r → Same r s t → Same r d e → Rows s d n r → Rows t e n r
rows_same s d t e n r l hs hd h =
    record {
      root-dist = sym (hd 0 l) ∙ h.root-dist;
      root-size = sym (hs 0 l) ∙ h.root-size;
      row = λ z u v. row_same s d t e z r v hs hd (h.row z u v);
    }

-- a row that is not right for its only parent: no sound table has the rows up to it
pub no_way : (D S : List ℕ) (r x : ℕ) → r < length S → Inner (cell S) r x → (Fine (cell S) (cell D) r x → ⊥)
    → Begun (r + 1) D S → ⊥
no_way D S r x l i ne b =
    let w : Row (cell b.sizes) (cell b.dists) r =
    (shape_rows b.dists b.sizes b.shaped).row r (omega (arith, i.before)) (omega (arith, b.size-length)) in
    let v : Row (cell S) (cell D) r =
    row_same (cell b.sizes) (cell b.dists) (cell S) (cell D) r (r + 1) (omega arith)
    (same_cells (r + 1) b.sizes S b.size_same) (same_cells (r + 1) b.dists D b.dist_same) w in
    ne (subst (λ (y : ℕ). Fine (cell S) (cell D) r y) (inner_once (cell S) r v.parent x v.inner i) v.fine)

-- a table whose first row goes on to a sound one has the right lengths and root
pub begun-root : (D S : List ℕ) → Begun 1 D S → Rooted D S
begun-root D S b =
    let l = shape_lengths b.dists b.sizes b.shaped in
    let h = shape_rows b.dists b.sizes b.shaped in
    record {
      same = omega (arith, b.dist-length, b.size-length);
      some = omega (arith, b.size-length);
      few = omega (arith, b.size-length);
      root-dist = omega (arith, h.root-dist, same_cells 1 b.dists D b.dist_same 0 (omega arith));
      root-size = omega (arith, h.root-size, b.size-length, same_cells 1 b.sizes S b.size_same 0 (omega arith));
    }

-- a column with one value changed
put : (ℕ → ℕ) → ℕ → ℕ → ℕ → ℕ
put f r v z = elim (eqb z r) [ true ↦ v | false ↦ f z ]

put_same : (f : ℕ → ℕ) (r v : ℕ) → put f r v r ≡ v
unfolding put
put_same f r v = rw (eq-eqb r r refl, put)

put_other : (f : ℕ → ℕ) (r v : ℕ) → Same r f (put f r v)
unfolding put
put_other f r v z l = rw (ne_eqb z r (λ e. omega arith), put)

-- the first n rows of a column as a list
listed : ℕ → (ℕ → ℕ) → List ℕ
listed zero f = []
listed (suc n) f = f 0 ∷ listed n (λ i. f (suc i))

length-listed : (n : ℕ) (f : ℕ → ℕ) → length (listed n f) ≡ n
unfolding listed
length-listed zero f = refl
length-listed (suc n) f = ap suc (length-listed n (λ i. f (suc i)))

cell-listed : (n : ℕ) (f : ℕ → ℕ) → Same n (cell (listed n f)) f
unfolding listed
cell-listed zero f z l = absurd (omega arith)
cell-listed (suc n) f zero l = refl
cell-listed (suc n) f (suc z) l = cell-listed n (λ i. f (suc i)) z (omega arith)

-- columns that agree with s and d before r, and whose rows all have parents
record More (s d : ℕ → ℕ) (n r : ℕ) : Type 0 where
  size : ℕ → ℕ
  dist : ℕ → ℕ
  size_same : Same r s size
  dist_same : Same r d dist
  rows : Rows size dist n n

-- the climb
risen : (s d : ℕ → ℕ) (n r fuel x : ℕ) → x ≤ fuel → r < n → Rows s d n r → Open s r x → (y : ℕ) × Inner s r y
risen s d n r zero x f l h o = (x, found s r x o (λ e. omega (arith, not_root s n r x l h.root-size e)))
risen s d n r (suc fuel) x f l h o =
    elim (ℕ_discrete (x + s x) r) [
      | yes e ↦
          let w : Up s d r x = above s d r x o e (h.row x (not_root s n r x l h.root-size e) o.before) in
          risen s d n r fuel w.to (omega (arith, w.less)) l h w.there
      | no ne ↦ (x, found s r x o ne)
    ]

-- a leaf as row r, in its only parent y
module _ (s d : ℕ → ℕ) (r y : ℕ) (i : Inner s r y) where
  leaf_inner : Inner (put s r 1) r y
  leaf_inner =
      record {
        before = i.before;
        past = omega (arith, i.past, put_other s r 1 y i.before);
        closed = λ z u v. omega (arith, i.closed z u v, put_other s r 1 z v);
      }

  leaf_fine : Fine (put s r 1) (put d r (r - y)) r y
  leaf_fine =
      record {
        far = omega (arith, i.before, put_same d r (r - y));
        some = omega (arith, put_same s r 1);
        inside = omega (arith, put_same s r 1, i.past, put_other s r 1 y i.before);
      }

  leaf_rows : (n : ℕ) → Rows s d n r → Rows (put s r 1) (put d r (r - y)) n (r + 1)
  leaf_rows n h =
      next-rows (put s r 1) (put d r (r - y)) n r y leaf_inner leaf_fine
      (rows_same s d (put s r 1) (put d r (r - y)) n r (omega (arith, i.before)) (put_other s r 1)
      (put_other d r (r - y)) h)

  leaf_more : (n : ℕ) → More (put s r 1) (put d r (r - y)) n (r + 1) → More s d n r
  leaf_more n m =
      record {
        size = m.size;
        dist = m.dist;
        size_same = λ z u. put_other s r 1 z u ∙ m.size_same z (omega arith);
        dist_same = λ z u. put_other d r (r - y) z u ∙ m.dist_same z (omega arith);
        rows = m.rows;
      }

more : (k n r x : ℕ) (s d : ℕ → ℕ) → r + k ≡ n → Rows s d n r → Open s r x → More s d n r
more zero n r x s d e h o =
    record {
      size = s;
      dist = d;
      size_same = λ z u. refl;
      dist_same = λ z u. refl;
      rows = subst (λ (m : ℕ). Rows s d n m) (omega arith) h;
    }
more (suc k) n r x s d e h o =
    let w : (y : ℕ) × Inner s r y = risen s d n r x x (omega arith) (omega arith) h o in
    leaf_more s d r w.0 w.1 n
    (more k n (r + 1) r (put s r 1) (put d r (r - w.0)) (omega arith) (leaf_rows s d r w.0 w.1 n h)
    (next_open (put s r 1) (put d r (r - w.0)) r w.0 (leaf_fine s d r w.0 w.1)))

-- rows that all have parents, as lists; the values are free, so the sizes serve
listed_shape : (n : ℕ) (s d : ℕ → ℕ) → 0 < n → n ≤ most_rows → Rows s d n n → Shaped (listed n d) (listed n s)
listed_shape n s d l m h =
    record {
      value = listed n s;
      is =
          rows-sound (listed n d) (listed n s) (listed n s) (length-listed n d ∙ sym (length-listed n s)) refl
          (omega (arith, length-listed n s)) (omega (arith, length-listed n s))
          (subst (λ (k : ℕ). Rows (cell (listed n s)) (cell (listed n d)) k k) (sym (length-listed n s))
          (rows_same s d (cell (listed n s)) (cell (listed n d)) n n l (λ z u. sym (cell-listed n s z u))
          (λ z u. sym (cell-listed n d z u)) h));
    }

-- right rows are the first of a sound table
pub begun-rows : (D S : List ℕ) (r x : ℕ) → Rooted D S → r ≤ length S → Rows (cell S) (cell D) (length S) r
    → Open (cell S) r x → Begun r D S
begun-rows D S r x g l h o =
    let n : ℕ = length S in
    let m : More (cell S) (cell D) n r = more (n - r) n r x (cell S) (cell D) (omega arith) h o in
    let ld : length (listed n m.dist) ≡ length D = length-listed n m.dist ∙ sym g.same in
    let ls : length (listed n m.size) ≡ length S = length-listed n m.size in
    record {
      dists = listed n m.dist;
      sizes = listed n m.size;
      shaped = listed_shape n m.size m.dist g.some g.few m.rows;
      dist-length = ld;
      size-length = ls;
      dist_same =
          same-take r (listed n m.dist) D ld
          (λ z u. cell-listed n m.dist z (omega arith) ∙ sym (m.dist_same z u));
      size_same =
          same-take r (listed n m.size) S ls
          (λ z u. cell-listed n m.size z (omega arith) ∙ sym (m.size_same z u));
    }

-- all rows right: the shape of a sound table
pub rows_shape : (D S : List ℕ) → Rooted D S → Rows (cell S) (cell D) (length S) (length S) → Shaped D S
rows_shape D S g h = record { value = S; is = rows-sound D S S g.same refl g.some g.few h }
