-- Records: what each means, and the published tests 4 to 8 of each.
-- Assumes nothing.
use Rattle.std.specs.Prelude.{ℕ, suc, ◌+◌, ◌≡◌, Bool, true, cond, ◌&&◌, ◌||◌, not, List, [], ◌∷◌, T, leb, ltb, eqb, length, get_or, Option, Some, None}
use Rattle.plan.specs.declared.Record.{Record}
use Rattle.plan.specs.Tree.{Forest, count}
use Rattle.plan.specs.Table.{Table, sound, run}
use Rattle.plan.specs.Change.{delete, rename, replace, Change, insert, act, open_place}
use Rattle.plan.specs.Paint.{new, Painted, plan}

-- the kinds
abbrev pub is_delete : Record → Bool
is_delete r = eqb r.kind 1

abbrev pub is_insert : Record → Bool
is_insert r = eqb r.kind 2

abbrev pub is_rename : Record → Bool
is_rename r = eqb r.kind 3

abbrev pub is_replace : Record → Bool
is_replace r = eqb r.kind 4

-- what a record means, the k-th of its list
unfoldable pub change : Table → ℕ → Record → Change Painted
change i k r =
    let s = plan (new k) (run i r.from) in
    cond (is_delete r) (act r.location delete)
    (cond (is_insert r) (insert r.location r.parent s)
    (cond (is_rename r) (act r.location (rename (λ a. record { value = r.value; origin = a.origin })))
    (act r.location (replace s))))

unfoldable pub changes : Table → ℕ → List Record → List (Change Painted)
changes i k [] = []
changes i k (r ∷ rs) = change i k r ∷ changes i (suc k) rs

-- 4: the kind is one of the four
unfoldable pub known : Record → Bool
known r = leb 1 r.kind && leb r.kind 4

-- 5: the location is an open place of the parent, or a row of the tree; row 0 can only be renamed
unfoldable pub located : {A : Type 0} → Forest A → Record → Bool
located t r =
    let p = r.location in
    cond (is_insert r) (ltb r.parent (count t) && open_place t p r.parent)
    (ltb p (count t) && (is_rename r || ltb 0 p))

-- 6: the run of an insert or a replace starts and ends within the insertions, and by itself is sound
unfoldable pub runs : Table → Record → Bool
runs i r =
    let f = r.from in
    let m = length i.size in
    not (is_insert r || is_replace r) || (ltb f m && (leb (f + get_or i.size f 0) m && sound (run i f)))

-- 7: the location is past the one before, or the same; then an insert follows an insert, and its parent is no larger
unfoldable pub follows : Option Record → Record → Bool
follows None r = true
follows (Some p) r =
    ltb p.location r.location
    || (eqb p.location r.location && (not (is_insert r) || (is_insert p && leb r.parent p.parent)))

-- 8: of two records at one location, one is an insert
unfoldable pub alone : Option Record → Record → Bool
alone None r = true
alone (Some p) r = not (eqb p.location r.location) || (is_insert p || is_insert r)

-- the first of these tests that a record fails, or 0
unfoldable pub failing : {A : Type 0} → Forest A → Table → Option Record → Record → ℕ
failing t i b r =
    cond (not (known r)) 4
    (cond (not (located t r)) 5
    (cond (not (runs i r)) 6
    (cond (not (follows b r)) 7
    (cond (not (alone b r)) 8 0))))

-- all of a list
abbrev pub All : {C : Type 0} → (C → Type 0) → List C → Type 0
All P [] = Unit {0}
All P (c ∷ cs) = P c × All P cs

module _ {A : Type 0} (t : Forest A) (i : Table) where
  -- a record behind b passes
  pub record Passes (b : Option Record) (r : Record) : Type 0 where
    pub kind-known : T (known r)
    pub in_place : T (located t r)
    pub run_sound : T (runs i r)
    pub in_order : T (follows b r)
    pub by_itself : T (alone b r)

  -- all records of a list do
  abbrev pub PassAll : Option Record → List Record → Type 0
  PassAll b [] = Unit {0}
  PassAll b (r ∷ rs) = Passes b r × PassAll (Some r) rs

-- ---- what a kind doesn't use is not read
-- two records of one kind that agree in what it uses: all use the location, an insert the parent, an insert and a
-- replace the run, a rename the value; a kind that is none of the four uses nothing
pub record Alike (r s : Record) : Type 0 where
  pub kind : r.kind ≡ s.kind
  pub location : T (known r) → r.location ≡ s.location
  pub parent : T (is_insert r) → r.parent ≡ s.parent
  pub from : T (is_insert r || is_replace r) → r.from ≡ s.from
  pub value : T (is_rename r) → r.value ≡ s.value

-- the record itself and the record behind it are tested alike, and it means the same
pub record Unread {A : Type 0} (t : Forest A) (i : Table) (r s : Record) : Type 0 where
  pub its_tests : (b : Option Record) → failing t i b r ≡ failing t i b s
  pub next-tests : T (known r) → (x : Record) → failing t i (Some r) x ≡ failing t i (Some s) x
  pub its_meaning : T (known r) → (k : ℕ) → change i k r ≡ change i k s
