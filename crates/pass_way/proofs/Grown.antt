-- New rows behind those that are there: what a move writes becomes the next rows, and the rows behind them stay.
-- Assumes nothing.
use Prim.Native.Nat.{ℕ, suc, ◌+◌, ◌-◌, ◌≤◌, ◌<◌}
use native.Mathlib.Omega.{arith}
use native.Mathlib.Numerals.{add-one}
use mathlib.Core.Path.{◌≡◌, refl, sym, ap, ◌∙◌}
use mathlib.Core.List.{List, [], ◌∷◌, ◌++◌, append_assoc}
use lib.ListN.{length, get_or, set, take, drop, length-drop, length-append}
use lib.Seq.{set_split, set_at, get_or-take, get_or-append-add, length-take-le, append_snoc, take-append-le}
use Rattle.plan.specs.Tree.{Forest, none, tree, count, labels, sizes, dists}
use Rattle.plan.specs.Table.{Table, table}
use Rattle.plan.specs.Change.{Change}
use Rattle.plan.specs.Open.{dist_at}
use Rattle.pass_moves.proofs.Rows.{table_eq, tall_one, tall_rows, tall_is, tall_beside, tall_first, room_less, first_beside, later_beside, first-first}
use Rattle.pass_moves.specs.Rows.{◌⧺◌, one_row, rows, first_rows, later_rows, Tall, Room}
use Rattle.plan.proofs.Columns.{length-dists}
use Rattle.pass_way.specs.Machine.{state}
use Rattle.pass_way.proofs.Machine.{state_eq}
use Rattle.pass_way.specs.Line.{Old}
use Rattle.pass_moves.specs.declared.Cursor.{Cursor}
use Rattle.pass_moves.specs.Written.{row, out, copied, laid, hung, rehung, stretched, rowed}
use Rattle.pass_moves.proofs.Copies.{hung-more, hung_else}
use Rattle.pass_way.specs.Walk.{state_of, Kept}

-- the n rows of v are written into the columns u at row `at`
pub record Grown (at n : ℕ) (v u u' : Table) : Type 0 where
  pub is : u' ≡ (first_rows at u ⧺ v) ⧺ later_rows (at + n) u
  pub tall : Tall n v
  pub room : Room (at + n) u

module _ {at n : ℕ} {v u u' : Table} (g : Grown at n v u u') where
  front : Tall (at + n) (first_rows at u ⧺ v)
  front = tall_beside (first_rows at u) v (tall_first (room_less (omega arith) g.room)) g.tall

  pub grown_first : first_rows (at + n) u' ≡ first_rows at u ⧺ v
  grown_first = ap (first_rows (at + n)) g.is ∙ first_beside (first_rows at u ⧺ v) (later_rows (at + n) u) front

  grown_later : later_rows (at + n) u' ≡ later_rows (at + n) u
  grown_later = ap (later_rows (at + n)) g.is ∙ later_beside (first_rows at u ⧺ v) (later_rows (at + n) u) front

  length-is : (x y : List ℕ) → length x ≡ at + n → at + n ≤ length y → length (x ++ drop (at + n) y) ≡ length y
  length-is x y h l = omega (arith, length-append x (drop (at + n) y), length-drop (at + n) y)

  pub grown_kept : Kept (at + n) u u'
  grown_kept =
      let f : Table = first_rows at u ⧺ v in
      let h = front in
      let r = g.room in
      let e = g.is in
      record {
        later = grown_later;
        dist = ap (λ (x : Table). length x.dist) e ∙ length-is f.dist u.dist h.dist r.dist;
        size = ap (λ (x : Table). length x.size) e ∙ length-is f.size u.size h.size r.size;
        value = ap (λ (x : Table). length x.value) e ∙ length-is f.value u.value h.value r.value;
      }

  pub grown_room : Room (at + n) u'
  grown_room =
      let k = grown_kept in
      record {
        dist = omega (arith, k.dist, g.room.dist);
        size = omega (arith, k.size, g.room.size);
        value = omega (arith, k.value, g.room.value);
      }

  pub grown_below : (z : ℕ) → z < at → dist_at u' z ≡ dist_at u z
  grown_below z l =
      let h : Tall at (first_rows at u) = tall_first (room_less (omega arith) g.room) in
      let e : first_rows at u' ≡ first_rows at u =
      sym (first-first at (at + n) u' (omega arith))
      ∙ (ap (first_rows at) grown_first ∙ first_beside (first_rows at u) v h) in
      sym (get_or-take at u'.dist z 0 l) ∙ (ap (λ (x : Table). dist_at x z) e ∙ get_or-take at u.dist z 0 l)

  -- a new distance
  pub grown_new : (z x : ℕ) → x ≡ at + z → z < n → dist_at u' x ≡ dist_at v z
  grown_new z x e l =
      let r : Room at u = room_less (omega arith) g.room in
      let h = (tall_first r).dist in
      sym (get_or-take (at + n) u'.dist x 0 (omega arith))
      ∙ (ap (λ (y : Table). dist_at y x) grown_first
      ∙ (ap (λ (y : ℕ). get_or (take at u.dist ++ v.dist) y 0) (omega arith)
      ∙ get_or-append-add (take at u.dist) v.dist z 0))

  -- the machine's state with these rows
  pub grown_state : (c : Cursor) → out c ≡ at + n → (cs : List (Change ℕ))
      → state_of u' c cs ≡ state (row c) (at + n) c.parent.0 c.under.0 (first_rows at u ⧺ v) cs
  unfolding state_of
  grown_state c e cs = state_eq refl e refl refl (ap (λ (m : ℕ). first_rows m u') e ∙ grown_first)

-- ---- a row
set_grown : (at v : ℕ) (x : List ℕ) → at + 1 ≤ length x → set x at v ≡ (take at x ++ (v ∷ [])) ++ drop (at + 1) x
set_grown at v x l =
    set_split x at v (omega arith) ∙ (rw (add-one at) (sym (append_snoc (take at x) v (drop (suc at) x))))

pub rowed_grown : (u : Table) (at d s a : ℕ) → Room (at + 1) u → Grown at 1 (one_row d s a) u (rowed u at d s a)
rowed_grown u at d s a r =
    record {
      is =
          table_eq (set_grown at d u.dist r.dist) (set_grown at s u.size r.size)
          (set_grown at a u.value r.value);
      tall = tall_one d s a;
      room = r;
    }

-- ---- a tree
set-top : (at d d₀ : ℕ) (x y z : List ℕ) → length x ≡ at → set ((x ++ (d₀ ∷ y)) ++ z) at d ≡ (x ++ (d ∷ y)) ++ z
set-top at d d₀ x y z h =
    ap (λ (l : List ℕ). set l at d) (append_assoc x (d₀ ∷ y) z)
    ∙ (set_at x d₀ (y ++ z) d at h ∙ sym (append_assoc x (d ∷ y) z))

pub laid_grown : (u : Table) (at : ℕ) (t : Table) (f n d d₀ a : ℕ) (k : Forest ℕ) → Room (at + n) u
    → first_rows n (later_rows f t) ≡ rows d₀ (tree a k none) → n ≡ suc (count k)
    → Grown at n (rows d (tree a k none)) u (laid u at t f n d)
unfolding copied
laid_grown u at t f n d d₀ a k r e h =
    let x : Table = first_rows at u in
    let z : Table = later_rows (at + n) u in
    let l = length-take-le at u.dist (omega (arith, r.dist)) in
    record {
      is =
          (λ w.
          let y = (x ⧺ e w) ⧺ z in
          table (set y.dist at d) y.size y.value)
          ∙ table_eq (set-top at d d₀ x.dist _ z.dist l) refl refl;
      tall = tall_is (omega arith) (tall_rows d (tree a k none));
      room = r;
    }

-- ---- a stretch: the first rows of a forest, under a row that stands d rows before
rehung-append : (d i : ℕ) (x y : List ℕ) → rehung d i (x ++ y) ≡ rehung d i x ++ rehung d (i + length x) y
unfolding rehung
rehung-append d i [] y = ap (λ (k : ℕ). rehung d k y) (omega arith)
rehung-append d i (a ∷ x) y =
    ap (λ (l : List ℕ). hung d i a ∷ l)
    (rehung-append d (suc i) x y ∙ ap (λ (k : ℕ). rehung d (suc i) x ++ rehung d k y) (omega arith))

-- the children of a row that is there already stay with it
rehung-kids : (d i e : ℕ) (f : Forest ℕ) → e ≤ i → rehung d i (dists e f) ≡ dists e f
unfolding rehung
rehung-kids d i e none h = refl
rehung-kids d i e (tree a k r) h =
    let n = length-dists 1 k in
    rw (hung_else d e i h, rehung-append d (suc i) (dists 1 k) (dists (e + suc (count k)) r))
    (λ w. e ∷ (rehung-kids d (suc i) 1 k (omega arith) w
    ++ rehung-kids d (suc i + length (dists 1 k)) (e + suc (count k)) r (omega arith) w))

-- the trees of the forest themselves hang on the row before it
rehung_trees : (d i b : ℕ) (f : Forest ℕ) → 0 < b → rehung d i (dists (b + i) f) ≡ dists (d + i) f
unfolding rehung
rehung_trees d i b none h = refl
rehung_trees d i b (tree a k r) h =
    let j : ℕ = suc i + length (dists 1 k) in
    let e : b + i + suc (count k) ≡ b + j = omega (arith, length-dists 1 k) in
    let w : d + j ≡ d + i + suc (count k) = omega (arith, length-dists 1 k) in
    rw (hung-more d (b + i) i (omega arith), rehung-append d (suc i) (dists 1 k) (dists (b + i + suc (count k)) r))
    (λ y. (d + i) ∷ (rehung-kids d (suc i) 1 k (omega arith) y
    ++ (ap (λ (x : ℕ). rehung d j (dists x r)) e ∙ (rehung_trees d j b r h ∙ ap (λ (x : ℕ). dists x r) w)) y))

-- the first n of what begins with a column of the forest
begins : (n : ℕ) (l x y : List ℕ) → l ≡ x ++ y → n ≤ length x → take n l ≡ take n x
begins n l x y e h = ap (take n) e ∙ take-append-le n x y h

begins_dists : (n d f q : ℕ) (l y : List ℕ) (g : Forest ℕ) → l ≡ dists (f - q) g ++ y → q < f → n ≤ count g
    → take n (rehung d 0 l) ≡ take n (dists d g)
begins_dists n d f q l y g e z h =
    let x : List ℕ = dists (f - q) g in
    let w : rehung d 0 x ≡ dists d g =
    ap (λ (b : ℕ). rehung d 0 (dists b g)) (omega arith)
    ∙ (rehung_trees d 0 (f - q) g (omega arith) ∙ ap (λ (b : ℕ). dists b g) (omega arith)) in
    begins n (rehung d 0 l) (dists d g) (rehung d (0 + length x) y)
    (ap (rehung d 0) e ∙ (rehung-append d 0 x y ∙ ap (λ (k : List ℕ). k ++ rehung d (0 + length x) y) w))
    (omega (arith, length-dists d g))

pub stretched_grown : (u : Table) (at : ℕ) (t : Table) (f n d q : ℕ) (g : Forest ℕ) → Room (at + n) u → Old t f q g
    → q < f → n ≤ count g → Grown at n (first_rows n (rows d g)) u (stretched u at t f n d)
unfolding copied
stretched_grown u at t f n d q g r h z l =
    let e = h.is in
    let v = h.behind in
    let a = tall_rows d g in
    let x : Table = first_rows at u in
    let y : Table = later_rows (at + n) u in
    let columns
    : table (take n (rehung d 0 (drop f t.dist))) (take n (drop f t.size)) (take n (drop f t.value))
    ≡ first_rows n (rows d g) =
    table_eq (begins_dists n d f q (drop f t.dist) v.dist g (ap (λ (w : Table). w.dist) e) z l)
    (begins n (drop f t.size) (sizes g) v.size (ap (λ (w : Table). w.size) e) (omega (arith, a.size)))
    (begins n (drop f t.value) (labels g) v.value (ap (λ (w : Table). w.value) e) (omega (arith, a.value))) in
    record {
      is = λ w. (x ⧺ columns w) ⧺ y;
      tall =
          tall_first (record {
            dist = omega (arith, a.dist);
            size = omega (arith, a.size);
            value = omega (arith, a.value);
          });
      room = r;
    }
