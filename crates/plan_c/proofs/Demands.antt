-- The three demands, as theorems about the calls that the library publishes. Each follows from the contract of its
-- call; the definitions that it cites stand in plan/specs. In the statements t is the table, i the insertions, l the
-- list, u the new columns before a call, a its answer and w the new columns behind it; `evens` says whether a list
-- that is lent as columns has columns of equal length, and is true of a list lent as a slice.
-- Assumes nothing.
use Prim.Native.Nat.{ℕ, ◌<◌}
use mathlib.Core.Path.{◌≡◌, ap}
use mathlib.Core.Bool.{Bool, true, false, ◌&&◌}
use mathlib.Core.Logic.{◌↔◌}
use mathlib.Core.List.{List, [], ◌∷◌, ◌++◌, map}
use lib.Dec.{T}
use lib.ListN.{length, get_or}
use Rattle.plan.specs.declared.Record.{Record}
use Rattle.plan.specs.declared.Answer.{Answer}
use Rattle.std.specs.Prelude.{None}
use Rattle.plan.specs.Verdict.{Passed, Failed}
use Rattle.plan.specs.Mapping.{NotBecame}
use Rattle.plan.specs.Mapping.{NotWas}
use Rattle.plan.specs.Answer.{accepted, refused}
use Rattle.plan.specs.Tree.{Forest, count}
use Rattle.plan.specs.Table.{Table, TreeOf, tree_of, table_of, even, sound}
use Rattle.plan.specs.Change.{Change, rename, act, single, meaning, kept, AllLegal}
use Rattle.plan.specs.Paint.{Painted, Origin, old, plan, written, origins}
use Rattle.plan.specs.Records.{change, changes, Alike, Unread}
use Rattle.plan.specs.Call.{result, bulk, judged, over, Done, kept_of}
use Rattle.plan.specs.Reasons.{Reason, NoRoom, NoRow, all_even}
use Rattle.plan.specs.Axes.{soundness, parent, first_child, next_sibling, subtree, parent_in, first_child_in, next_sibling_in, subtree_in}
use Rattle.plan.specs.Mapping.{row, gone, fate, origin_at, mark, number, new_numbers, record_of, row_of, takes, Formula, Fate, queried, mapped, became, was}
use Rattle.plan.proofs.Sound.{sound_exactly, one_table}
use Rattle.plan.proofs.Sound as trees
use Rattle.plan.proofs.Tests.{soundness-sound, soundness-unsound}
use Rattle.plan.proofs.Axes.{parent-sound, first-child-sound, next_sibling-sound, subtree-sound}
use Rattle.plan.proofs.Unused.{unused_fields}
use Rattle.plan.proofs.Judged.{Accepted, accepted-judged}
use Rattle.plan.proofs.Verdicts.{then-passed}
use Rattle.plan.proofs.Refusals.{refused_for, query_refused_for, map-refused_for, became-refused, was-refused}
use Rattle.plan.proofs.Legal.{all_legal}
use Rattle.plan.proofs.Roots.{result-sound}
use Rattle.plan.proofs.Tested.{all_located, all_ordered}
use Rattle.plan.proofs.OnePass.{kept_result}
use Rattle.plan.proofs.Origins.{Fair, number_formula}
use Rattle.plan.proofs.Survivors as survivors
use Rattle.judge_record.proofs.Ways.{fair}
use Rattle.along.proofs.Reaching.{passes}
use Rattle.refresh.proofs.Outcomes as outcomes
use Rattle.mapping.proofs.EveryRow as every

-- ==== demand 1: a call refuses only for a published reason, gives the first that holds, and then writes nothing
module _ (evens : Bool) (t i : Table) (l : List Record) (u : Table) (a : Answer) (w : Table)
    (d : Done evens t i l u a w) where
  -- a number other than 0: the published reason with this number, place and count holds, and none before it
  pub refused_for_a_reason : 0 < a.number
      → Reason (all_even evens t i u) t i l (NoRoom (count (result t i l)) (length u.size))
      a.number a.place a.count
  refused_for_a_reason h =
      refused_for evens t i l u a.number a.place a.count
      (outcomes.number-refuses evens t i l u a w d h)

  pub refused_writes_nothing : 0 < a.number → w ≡ u
  refused_writes_nothing h =
      (outcomes.refused_call evens t i l u a w d a.number a.place a.count
      (outcomes.number-refuses evens t i l u a w d h)).1

  -- the contract determines the answer and the columns
  pub one_outcome : (b : Answer) (v : Table) → Done evens t i l u b v → (a ≡ b) × (w ≡ v)
  one_outcome b v e = outcomes.one_outcome evens t i l u a w d b v e

-- so too a mapping of one row, old to new or new to old, and a mapping as a whole column or two
pub old-refused_for_a_reason : (evens : Bool) (t i : Table) (l : List Record) (m r : ℕ) (f : Fate) (n p c : ℕ)
    → became (queried evens t i l m r) f ≡ NotBecame n p c
    → Reason (evens && (even t && even i)) t i l (NoRow m r) n p c
old-refused_for_a_reason evens t i l m r f n p c h =
    query_refused_for evens t i l m r n p c (became-refused (queried evens t i l m r) f n p c h)

pub new-refused_for_a_reason : (evens : Bool) (t i : Table) (l : List Record) (m r : ℕ) (o : Origin) (n p c : ℕ)
    → was (queried evens t i l m r) o ≡ NotWas n p c
    → Reason (evens && (even t && even i)) t i l (NoRow m r) n p c
new-refused_for_a_reason evens t i l m r o n p c h =
    query_refused_for evens t i l m r n p c (was-refused (queried evens t i l m r) o n p c h)

pub column-refused_for_a_reason : (evens : Bool) (t i : Table) (l : List Record) (m room : ℕ) (n p c : ℕ)
    → mapped evens t i l m room ≡ Failed n p c
    → Reason (evens && (even t && even i)) t i l (NoRoom m room) n p c
column-refused_for_a_reason evens t i l m room n p c h = map-refused_for evens t i l m room n p c h

-- what a kind does not use is not read
pub not_read : {A : Type 0} (t : Forest A) (i : Table) (r s : Record) → Alike r s → Unread t i r s
not_read t i r s h = unused_fields t i r s h

-- ==== demand 2: sound tables are the walks of trees, one table each, and the axes are the tree's
pub sound_means_a_tree : (t : Table) → T (sound t) ↔ TreeOf t
sound_means_a_tree t = sound_exactly t

pub one_table_each : (f g : Forest ℕ) → table_of f ≡ table_of g → f ≡ g
one_table_each f g e = one_table f g (ap (λ (t : Table). t.size) e) (ap (λ (t : Table). t.value) e)

pub sizes_decide : (t u : Table) → T (sound t) → T (sound u) → t.size ≡ u.size → t.value ≡ u.value → t ≡ u
sizes_decide t u h k s v = trees.sizes_decide t u h k s v

-- the soundness call accepts just the sound tables
pub soundness_accepts : (t : Table) → even t ≡ true → sound t ≡ true → soundness t ≡ accepted (length t.size)
soundness_accepts t e h = soundness-sound t e h

pub soundness-refuses : (t : Table) → even t ≡ true → sound t ≡ false → soundness t ≡ refused 2 0 0
soundness-refuses t e h = soundness-unsound t e h

module _ (t : Table) (h : TreeOf t) (r : ℕ) (l : r < length t.size) where
  pub parents_agree : parent t r ≡ parent_in (tree_of h) r
  parents_agree = parent-sound t h r l

  pub first-children_agree : first_child t r ≡ first_child_in (tree_of h) r
  first-children_agree = first-child-sound t h r l

  pub next_siblings_agree : next_sibling t r ≡ next_sibling_in (tree_of h) r
  next_siblings_agree = next_sibling-sound t h r l

  pub subtrees_agree : subtree t r ≡ subtree_in (tree_of h) r
  subtrees_agree = subtree-sound t h r l

-- a single call writes the table of the tree changed once
pub single-changes_agree : (t i : Table) (r : Record) (u : Table) (a : Answer) (w : Table)
    → Done true t i (r ∷ []) u a w
    → a.number ≡ 0 → w ≡ over (written (single (change i 0 r) (plan old t))) u
single-changes_agree t i r u a w d e =
    outcomes.changed_once t i r u a w d (outcomes.number_accepts true t i (r ∷ []) u a w d e)

-- ==== demand 3: an accepted list is applied singly, the last record first, and every row is told where it went
module _ (evens : Bool) (t i : Table) (l : List Record) (u : Table) (a : Answer) (w : Table)
    (d : Done evens t i l u a w) (accepts : a.number ≡ 0) where
  passed : bulk evens t i l u ≡ Passed
  passed = outcomes.number_accepts evens t i l u a w d accepts

  tests : Accepted (evens && (even t && (even i && even u))) t i l
  unfolding bulk
  tests = accepted-judged (evens && (even t && (even i && even u))) t i l (then-passed _ _ passed).0

  -- the table of the tree that all records mean, the vain ones too
  abbrev pub meant : Table
  meant = written (meaning (changes i 0 l) (plan old t))

  pub new-table : (a ≡ accepted (length meant.size)) × (w ≡ over meant u)
  new-table = outcomes.accepted_call evens t i l u a w d passed

  pub new-table-sound : T (sound meant)
  unfolding result
  new-table-sound = result-sound t i l tests.table-sound tests.all_pass tests.few-rows

  -- each record is a legal change of the tree as it then is: its row exists, its place is open there
  pub each_record_legal : AllLegal (changes i 0 l) (plan old t)
  each_record_legal = all_legal t i l tests.all_pass

  -- what is vain leaves no trace
  pub vain_leaves_no_trace : meaning (kept (plan old t) [] (changes i 0 l)) (plan old t) ≡ result t i l
  vain_leaves_no_trace =
      let f = plan old t in
      kept_result t i l (all_located f i None l tests.all_pass) (all_ordered f i None l tests.all_pass)

-- the mappings: tests 1 to 9 passed
module _ (t i : Table) (l : List Record) (passed : judged (even t && even i) t i l ≡ Passed) where
  abbrev os : List Origin
  os = origins (result t i l)

  fairly : Fair t l
  fairly = fair t i l (passes t i l passed)

  -- the paper's formula for the new number of an old row
  pub told_its_number : (r : ℕ) → r < length t.size → Formula (plan old t) r (kept_of t i l) (fate os 0 r)
  told_its_number r k = number_formula t i l fairly r k

  -- the mappings are inverse on survivors
  pub there_and_back : (r m : ℕ) → fate os 0 r ≡ row m → (m < count (result t i l)) × (origin_at os m ≡ old r)
  there_and_back r m e = survivors.there_and_back t i l fairly r m e

  pub back_and_there : (m r : ℕ) → m < count (result t i l) → origin_at os m ≡ old r → fate os 0 r ≡ row m
  back_and_there m r k e = survivors.back_and_there t i l fairly m r k e

  -- survivors keep their order; what a kept record removes is gone; what one renames stays
  pub order_stays : (r s m n : ℕ) → fate os 0 r ≡ row m → fate os 0 s ≡ row n → r < s → m < n
  order_stays r s m n e f k = survivors.order_stays t i l fairly r s m n e f k

  pub removed-gone : (xs ys : List (Change Painted)) (c : Change Painted) (r : ℕ) → kept_of t i l ≡ xs ++ c ∷ ys
      → r < length t.size → T (takes (plan old t) r c) → fate os 0 r ≡ gone
  removed-gone xs ys c r e k v = survivors.removed-gone t i l fairly xs ys c r e k v

  pub renamed_stays : (xs ys : List (Change Painted)) (q : ℕ) (g : Painted → Painted)
      → kept_of t i l ≡ xs ++ act q (rename g) ∷ ys → q < length t.size → (m : ℕ) × (fate os 0 q ≡ row m)
  renamed_stays xs ys q g e k = survivors.renamed_stays t i l fairly xs ys q g e k

  -- in a whole column each row is what the mapping of one row answers, and no row has the mark of one that is gone
  pub every_old_row : (n x : ℕ) → x < n → get_or (new_numbers os n 0) x 0 ≡ number (fate os 0 x)
  every_old_row n x h = every.every_old os n x h

  pub every_new_row : (x : ℕ)
      → (get_or (map record_of os) x (record_of (old 0)) ≡ record_of (origin_at os x))
      × (get_or (map row_of os) x (row_of (old 0)) ≡ row_of (origin_at os x))
  every_new_row x = every.every_new os x

  pub mark-alone : (x m : ℕ) → fate os 0 x ≡ row m → m < mark
  mark-alone x m e = every.mark-alone t i l x m passed e
