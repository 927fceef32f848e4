-- The soundness call and the axes: what a call about a table, or about one of its rows, answers from raw columns;
-- and the relations of a tree that the axes are named after.
-- Assumes nothing.
use Rattle.std.specs.Prelude.{ℕ, zero, suc, ◌+◌, ◌-◌, cond, ◌&&◌, List, [], ◌∷◌, leb, ltb, eqb, length, take, drop, get_or}
use Rattle.plan.specs.Tree.{Forest, none, tree, count, labels, from, children}
use Rattle.plan.specs.Table.{Table, even, sound}
use Rattle.plan.specs.declared.Answer.{Answer}
use Rattle.plan.specs.Verdict.{Verdict}
use Rattle.plan.specs.Verdict.{Passed, Failed}
use Rattle.plan.specs.Call.{then, test, answer}

-- what stands in row r of a column
abbrev pub cell : List ℕ → ℕ → ℕ
cell column r = get_or column r 0

-- ---- the soundness call: tests 1 and 2; accepted it counts the rows
unfoldable pub soundness : Table → Answer
soundness t = answer (then (test (even t) 1 0 0) (test (sound t) 2 0 0)) (length t.size)

-- ---- what an axis answers: a row, none, or the number of the test that failed and the place at fault
pub data Reply : Type 0 where
  row : ℕ → Reply
  nothing : Reply
  refuse : (number place : ℕ) → Reply

-- that, where the tests passed
abbrev pub reply : Verdict → Reply → Reply
reply Passed x = x
reply (Failed number place count) x = refuse number place

-- that, of the row found
abbrev pub on : Reply → (ℕ → Reply) → Reply
on (row q) x = x q
on nothing x = nothing
on (refuse number place) x = refuse number place

-- tests 1 and 11
unfoldable pub asked : Table → ℕ → Verdict
asked t r = then (test (even t) 1 0 0) (test (ltb r (length t.size)) 11 r 0)

-- and 12 for a subtree that lies in the table: size ≥ 1 and r + size ≤ n
unfoldable pub whole : Table → ℕ → Verdict
whole t r =
    let s = cell t.size r in
    then (asked t r) (test (leb 1 s && leb (r + s) (length t.size)) 12 r 0)

-- parent of r: none for row 0; else r − dist, where 1 ≤ dist ≤ r
unfoldable pub parent : Table → ℕ → Reply
parent t r =
    let d = cell t.dist r in
    reply (asked t r)
    (cond (eqb r 0) nothing (reply (test (leb 1 d && leb d r) 12 r 0) (row (r - d))))

-- first child: r + 1 where size ≥ 2, else none
unfoldable pub first_child : Table → ℕ → Reply
first_child t r = reply (whole t r) (cond (leb 2 (cell t.size r)) (row (r + 1)) nothing)

-- next sibling: none for row 0; else, with a parent q, size of r ≥ 1, q + size of q ≤ n and r + size ≤ q + size of q:
-- r + size if less than q + size of q; none if equal
unfoldable pub next_sibling : Table → ℕ → Reply
next_sibling t r =
    let s = cell t.size r in
    on (parent t r) (λ q.
    let e = q + cell t.size q in
    reply (test (leb 1 s && (leb e (length t.size) && leb (r + s) e)) 12 r 0)
    (cond (ltb (r + s) e) (row (r + s)) nothing))

-- subtree: the row asked about where its subtree lies in the table, and that part of the values, or the empty part
unfoldable pub subtree_top : Table → ℕ → Reply
subtree_top t r = reply (whole t r) (row r)

abbrev pub part_where : Verdict → List ℕ → List ℕ
part_where Passed values = values
part_where (Failed number place count) values = []

unfoldable pub subtree : Table → ℕ → List ℕ
subtree t r = part_where (whole t r) (take (cell t.size r) (drop r t.value))

-- ---- a child walk: where it starts, and what a step gives
-- what the tests answer, the first candidate and the end; a walk refused at its start stands at its end
pub record Start : Type 0 where
  pub answer : Reply
  pub next : ℕ
  pub end : ℕ

abbrev pub start_where : Verdict → (r next end : ℕ) → Start
start_where Passed r next end = record { answer = row r; next = next; end = end }
start_where (Failed number place count) r next end = record { answer = refuse number place; next = 0; end = 0 }

unfoldable pub walk_start : Table → ℕ → Start
walk_start t r = start_where (whole t r) r (r + 1) (r + cell t.size r)

-- a child's row and the next candidate; none; or a refusal with its number and place
pub data Walked : Type 0 where
  child : (row next : ℕ) → Walked
  ended : Walked
  stopped : (number place : ℕ) → Walked

-- a step at the candidate c: none at the end e; refused where the size of c is 0 or c + size of c passes e; else c
unfoldable pub step : List ℕ → (c e : ℕ) → Walked
step size c e =
    let s = cell size c in
    cond (eqb c e) ended (cond (leb 1 s && leb (c + s) e) (child c (c + s)) (stopped 12 c))

-- where the walk then stands: a step that gives no child stays
abbrev pub moved : Walked → ℕ → ℕ
moved (child r next) c = next
moved ended c = c
moved (stopped number place) c = c

-- what k steps answer
unfoldable pub steps : ℕ → List ℕ → (c e : ℕ) → List Walked
steps zero size c e = []
steps (suc k) size c e = step size c e ∷ steps k size (moved (step size c e) c) e

-- what tests 1 and 11 give: the row asked about
abbrev pub asked_row : Table → ℕ → Reply
asked_row t r = reply (asked t r) (row r)

-- ---- a tree's own relations
module _ {A : Type 0} where
  -- the first tree alone, and the trees after it
  abbrev pub top : Forest A → Forest A
  top none = none
  top (tree a kids rest) = tree a kids none

  abbrev pub later : Forest A → Forest A
  later none = none
  later (tree a kids rest) = rest

  -- the row of the first tree of a forest that starts at row b
  abbrev pub starts : Forest A → ℕ → Reply
  starts none b = nothing
  starts (tree a kids rest) b = row b

  -- the rows of all its trees' roots
  abbrev pub roots : Forest A → ℕ → List ℕ
  roots none b = []
  roots (tree a kids rest) b = b ∷ roots rest (b + suc (count kids))

  -- in a forest that starts at row b and whose trees have the parent u: the parent of the row p rows behind b
  unfoldable pub parent_under : Forest A → (u : Reply) (b p : ℕ) → Reply
  parent_under none u b p = nothing
  parent_under (tree a kids rest) u b zero = u
  parent_under (tree a kids rest) u b (suc p) =
      cond (ltb p (count kids)) (parent_under kids (row b) (b + 1) p)
      (parent_under rest u (b + suc (count kids)) (p - count kids))

  -- of row r: its parent, its first child, its next sibling, the labels of its subtree, and its children in order
  abbrev pub parent_in : Forest A → ℕ → Reply
  parent_in f r = parent_under f nothing 0 r

  abbrev pub first_child_in : Forest A → ℕ → Reply
  first_child_in f r = starts (children (from f r)) (r + 1)

  abbrev pub next_sibling_in : Forest A → ℕ → Reply
  next_sibling_in f r = starts (later (from f r)) (r + count (top (from f r)))

  abbrev pub subtree_in : Forest A → ℕ → List A
  subtree_in f r = labels (top (from f r))

  abbrev pub children_in : Forest A → ℕ → List ℕ
  children_in f r = roots (children (from f r)) (r + 1)
