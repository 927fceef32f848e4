-- What the tests of a record tell the pass: which kinds there are, which rows it names, where its run lies; and that
-- only the first record of a list can be at the root, which it renames.
-- Assumes nothing.
use Prim.Native.Nat.{ℕ, suc, ◌+◌, ◌-◌, ◌≤◌, ◌<◌}
use native.Mathlib.Omega.{arith}
use native.Mathlib.Nat.{add-zero}
use mathlib.Core.Path.{◌≡◌, sym, ap, ◌∙◌, subst}
use mathlib.Core.Bool.{Bool, true, not, ◌&&◌, ◌||◌}
use mathlib.Core.List.{List, [], ◌∷◌}
use lib.Dec.{T, eqb, ltb, leb, ltb→lt, eqb→eq, T_not}
use lib.ListN.{length, get_or, drop, length-take, length-drop}
use lib.Seq.{get_or-take, get_or-drop}
use borrow.Author.Tests.{ne_eqb, eq-eqb}
use Rattle.plan.specs.declared.Record.{Record}
use Rattle.std.specs.Prelude.{Option, Some}
use Rattle.plan.specs.Tree.{Forest, none, tree, count, from, children}
use Rattle.plan.specs.Table.{Table, table_of, sound, run, TreeOf}
use Rattle.plan.specs.Change.{Change, opens, open_place, location}
use Rattle.plan.specs.Records.{is_insert, is_rename, is_replace, known, located, runs, follows, alone, All, Passes, PassAll}
use Rattle.plan.specs.Open.{size_at}
use Rattle.plan.proofs.Kit.{T_and, T-or, eq→eqb, cond_elim, by_side, by_place}
use Rattle.plan.proofs.Rows.{below_fits}
use Rattle.plan.proofs.OpenPlaces.{opens_most}
use Rattle.plan.proofs.Sound.{sound-tree}
use Rattle.plan.proofs.FourKinds.{by_kind}
use Rattle.pass_moves.specs.Rows.{Room}
use Rattle.pass_way.proofs.MachineBetween.{Far}
use Rattle.pass_way.proofs.MachineTable.{rooted}
use Rattle.pass_moves.proofs.Rows.{tall_tree}
use Rattle.pass.specs.Values.{valued, values}
use Rattle.pass.proofs.Values.{valued-delete, valued-insert, valued-rename, valued-replace}

-- ---- test 5
module _ {A : Type 0} (f : Forest A) (r : Record) (h : T (located f r)) where
  pub insert_named : r.kind ≡ 2 → (r.parent < count f) × (r.parent < r.location)
  unfolding located open_place
  insert_named k =
      let p : ℕ = r.location in
      let q : ℕ = r.parent in
      let o : Bool = opens (children (from f q)) (p - suc q) in
      let w : T (ltb q (count f) && (ltb q p && o)) = rw (eq-eqb r.kind 2 k) at h in
      let v = T_and (ltb q (count f)) (ltb q p && o) w in
      (ltb→lt q (count f) v.0, ltb→lt q p (T_and (ltb q p) o v.1).0)

  pub row_named : (r.kind ≡ 2 → ⊥) → (r.location < count f) × ((r.kind ≡ 3 → ⊥) → 0 < r.location)
  unfolding located
  row_named k =
      let p : ℕ = r.location in
      let w : T (ltb p (count f) && (is_rename r || ltb 0 p)) = rw (ne_eqb r.kind 2 k) at h in
      let v = T_and (ltb p (count f)) (is_rename r || ltb 0 p) w in (
        ltb→lt p (count f) v.0,
        λ n. ltb→lt 0 p (subst (λ (m : Bool). T (m || ltb 0 p)) (ne_eqb r.kind 3 n) v.1),
      )

  -- its location is a row, or the place behind the last
  pub place_named : r.location ≤ count f
  unfolding located open_place
  place_named =
      by_place r.kind 2 (λ k. low (λ z. omega arith))
      (λ k.
      let p : ℕ = r.location in
      let q : ℕ = r.parent in
      let o : Bool = opens (children (from f q)) (p - suc q) in
      let w : T (ltb q (count f) && (ltb q p && o)) = rw (eq-eqb r.kind 2 k) at h in
      let v = T_and (ltb q (count f)) (ltb q p && o) w in
      let n = ltb→lt q (count f) v.0 in
      let m = opens_most (children (from f q)) (p - suc q) (T_and (ltb q p) o v.1).1 in
      omega (arith, below_fits f q n)) (λ k. low (λ z. omega arith))
    where
      low : (r.kind ≡ 2 → ⊥) → r.location ≤ count f
      low k = omega (arith, (row_named k).0)

-- ---- test 6: a run
-- n rows of i from row f on are those of one tree
pub record RunOf (i : Table) (f : ℕ) : Type 0 where
  pub root : ℕ
  pub kids : Forest ℕ
  pub rows_are : run i f ≡ table_of (tree root kids none)
  pub size : size_at i f ≡ suc (count kids)
  pub few : size_at i f ≤ 65535
  pub room : Room (f + size_at i f) i

run-tree : (i : Table) (f : ℕ) → TreeOf (run i f) → RunOf i f
unfolding run
run-tree i f h =
    let n : ℕ = size_at i f in
    let tall = tall_tree h in
    let some : 0 < n = omega (arith, tall.size, length-take n (drop f i.size)) in
    let e : n ≡ suc (count h.kids) =
    sym (ap (λ (x : ℕ). get_or i.size x 0) (add-zero f)) ∙ (sym (get_or-drop f i.size 0 0)
    ∙ (sym (get_or-take n (drop f i.size) 0 0 some) ∙ ap (λ (u : Table). size_at u 0) h.is-table)) in
    record {
      root = h.root;
      kids = h.kids;
      rows_are = h.is-table;
      size = e;
      few = omega (arith, e, h.few);
      room =
          record {
            dist = omega (arith, e, tall.dist, length-take n (drop f i.dist), length-drop f i.dist);
            size = omega (arith, e, tall.size, length-take n (drop f i.size), length-drop f i.size);
            value = omega (arith, e, tall.value, length-take n (drop f i.value), length-drop f i.value);
          };
    }

pub run_of : (i : Table) (r : Record) → T (runs i r) → T (is_insert r || is_replace r) → RunOf i r.from
unfolding runs
run_of i r h k =
    let f : ℕ = r.from in
    let m : ℕ = length i.size in
    T-or (not (is_insert r || is_replace r)) _ (λ n. absurd (T_not (is_insert r || is_replace r) n k))
    (λ w.
    let v = T_and (ltb f m) (leb (f + size_at i f) m && sound (run i f)) w in
    let z = T_and (leb (f + size_at i f) m) (sound (run i f)) v.1 in
    run-tree i f (sound-tree (run i f) z.1)) h

-- ---- the root
module _ {A : Type 0} (f : Forest A) (i : Table) where
  later-not-root : (b : Option Record) (r r' : Record) → Passes f i b r → Passes f i (Some r) r' → 0 < r'.location
  unfolding follows alone
  later-not-root b r r' h h' = by_side 0 r'.location (λ l. l) (λ l. absurd (bad l))
    where
      not_there : (x : Record) → T (located f x) → x.location ≤ 0 → T (is_insert x) → ⊥
      not_there x w l n = let v = insert_named f x w (eqb→eq x.kind 2 n) in omega (arith, v.1)

      bad : r'.location ≤ 0 → ⊥
      bad l =
          T-or (ltb r.location r'.location) _
          (λ n. omega (arith, ltb→lt r.location r'.location n))
          (λ n.
          let same : Bool = eqb r.location r'.location in
          let e = eqb→eq r.location r'.location (T_and same _ n).0 in
          T-or (not same) _ (λ m. T_not same m (eq→eqb r.location r'.location e))
          (λ m.
          T-or (is_insert r) (is_insert r') (not_there r h.in_place (omega arith)) (not_there r' h'.in_place l) m)
          h'.by_itself) h'.in_order

  pub behind-root : (b : Option Record) (r : Record) (rs : List Record) → PassAll f i b (r ∷ rs)
      → All (λ x. 0 < x.location) rs
  behind-root b r [] h = tt
  behind-root b r (r' ∷ rs) h = (later-not-root b r r' h.0 h.1.0, behind-root (Some r) r' rs h.1)

  -- the first record at the root is a rename
  first_renames : (r : Record) (cs : List (Change ℕ)) → T (known r) → T (located f r) → T (rooted (valued i r ∷ cs))
  first_renames r cs k h =
      by_kind r k
      (λ e. rw (valued-delete i r e) (rw (ne_eqb r.location 0 (away e (λ z. omega arith) (λ z. omega arith))) tt))
      (λ e. rw (valued-insert i r e) tt)
      (λ e. rw (valued-rename i r e) (cond_elim T (eqb r.location 0) true true (λ z. tt) (λ z. tt)))
      (λ e. rw (valued-replace i r e) (rw (ne_eqb r.location 0 (away e (λ z. omega arith) (λ z. omega arith))) tt))
    where
      away : {n : ℕ} → r.kind ≡ n → (r.kind ≡ 2 → ⊥) → (r.kind ≡ 3 → ⊥) → r.location ≡ 0 → ⊥
      away e n m z = omega (arith, (row_named f r h n).1 m)

  pub values_rooted : (b : Option Record) (l : List Record) → PassAll f i b l → T (rooted (values i l))
  values_rooted b [] h = tt
  values_rooted b (r ∷ rs) h = first_renames r (values i rs) h.0.kind-known h.0.in_place

  -- ---- the records behind a rename are for later rows
  not-before : (r r' : Record) → T (follows (Some r) r') → r.location ≤ r'.location
  unfolding follows
  not-before r r' h =
      let same : Bool = eqb r.location r'.location in
      T-or (ltb r.location r'.location) _ (λ n. omega (arith, ltb→lt r.location r'.location n))
      (λ n. omega (arith, eqb→eq r.location r'.location (T_and same _ n).0)) h

  past-rename : (r r' : Record) → r.kind ≡ 3 → Passes f i (Some r) r' → r.location < r'.location
  unfolding follows alone
  past-rename r r' k h =
      let same : Bool = eqb r.location r'.location in
      let no : T (is_insert r) → ⊥ = λ n. omega (arith, eqb→eq r.kind 2 n) in
      T-or (ltb r.location r'.location) _ (λ n. ltb→lt r.location r'.location n)
      (λ n.
      let w = T_and same _ n in
      absurd (T-or (not same) _ (λ m. T_not same m w.0)
      (λ m.
      T-or (is_insert r) (is_insert r') no
      (λ j.
      T-or (not (is_insert r')) _ (λ x. T_not (is_insert r') x j) (λ x. no (T_and (is_insert r) _ x).0) w.1) m)
      h.by_itself)) h.in_order

  all_past : (n : ℕ) (r : Record) (rs : List Record) → n ≤ r.location → PassAll f i (Some r) rs
      → All (λ x. n ≤ x.location) rs
  all_past n r [] l h = tt
  all_past n r (r' ∷ rs) l h =
      let m : n ≤ r'.location = omega (arith, not-before r r' h.0.in_order) in
      (m, all_past n r' rs m h.1)

  pub behind-rename : (r : Record) (rs : List Record) → r.kind ≡ 3 → PassAll f i (Some r) rs
      → All (λ x. r.location + 1 ≤ x.location) rs
  behind-rename r [] k h = tt
  behind-rename r (r' ∷ rs) k h =
      let m : r.location + 1 ≤ r'.location = omega (arith, past-rename r r' k h.0) in
      (m, all_past (r.location + 1) r' rs m h.1)

  pub place-valued : (r : Record) → T (known r) → location (valued i r) ≡ r.location
  place-valued r k =
      by_kind r k (λ e. ap location (valued-delete i r e)) (λ e. ap location (valued-insert i r e))
      (λ e. ap location (valued-rename i r e)) (λ e. ap location (valued-replace i r e))

  pub far-values : (b : Option Record) (n : ℕ) (rs : List Record) → PassAll f i b rs → All (λ x. n + 1 ≤ x.location) rs
      → Far n (values i rs)
  far-values b n [] h l = tt
  far-values b n (r ∷ rs) h l = omega (arith, place-valued r h.0.kind-known, l.0)
