-- Where the pass stands in the old table t and in the new columns u, and what its moves do, in the words of the
-- machine.
-- Assumes nothing.
use Rattle.std.specs.Prelude.{ℕ, suc, ◌+◌, ◌-◌, ◌*◌, ◌≤◌, ◌<◌, ◌≡◌, Bool, true, false, List, [], length}
use Rattle.plan.specs.Tree.{Forest}
use Rattle.plan.specs.Table.{Table, table, TreeOf, most_rows}
use Rattle.plan.specs.Change.{Change}
use Rattle.pass_moves.specs.Rows.{first_rows, later_rows, Room}
use Rattle.pass_way.specs.Machine.{State, state, step, Reach, Aim, Away}
use Rattle.pass_way.specs.Line.{Line}
use Rattle.pass_moves.specs.declared.Cursor.{Cursor}
use Rattle.pass_moves.specs.Written.{row, out, Ahead}

-- a test says whether the pass is not yet where row p is next and q is open
abbrev pub Elsewhere : Bool → (c : Cursor) (p q : ℕ) → Type 0
Elsewhere true c p q = Away p q (row c) c.parent.0
Elsewhere false c p q = (row c ≡ p) × (c.parent.0 ≡ q)

-- r is the nearer of two rows
pub record Nearer (a b r : ℕ) : Type 0 where
  pub first : a < b → r ≡ a
  pub second : b ≤ a → r ≡ b

-- ---- where the pass stands
-- as a state of the machine: the new rows that are there, and the changes left
unfoldable pub state_of : Table → Cursor → List (Change ℕ) → State
state_of u c cs = state (row c) (out c) c.parent.0 c.under.0 (first_rows (out c) u) cs

-- the open rows are a line, and the new rows before the next are there
pub record Stands (t u : Table) (c : Cursor) : Type 0 where
  pub left : Forest ℕ
  pub line : Line t u (row c) c.parent.0 c.under.0 left
  pub behind : c.under.0 < out c
  pub room : Room (out c) u

-- from here the machine comes to an end, for which there is room
pub record Ends (t u : Table) (c : Cursor) (cs : List (Change ℕ)) : Type 0 where
  pub target : State
  pub reach : Reach t (state_of u c cs) target
  pub none_left : target.left ≡ []
  pub fixed : step t target ≡ target
  pub few : target.out ≤ most_rows
  pub room : Room target.out u

-- the rows from row n on stay
pub record Kept (n : ℕ) (u u' : Table) : Type 0 where
  pub later : later_rows n u' ≡ later_rows n u
  pub dist : length u'.dist ≡ length u.dist
  pub size : length u'.size ≡ length u.size
  pub value : length u'.value ≡ length u.value

-- ---- on the way to where row p is next and q is open
pub record Ready (t u : Table) (c : Cursor) (p q : ℕ) : Type 0 where
  pub tree_of : TreeOf t
  pub stands : Stands t u c
  pub left : List (Change ℕ)
  pub aim : Aim t p q left
  pub ends : Ends t u c left

pub record Moved (t u : Table) (c : Cursor) (p q : ℕ) (u' : Table) (c' : Cursor) : Type 0 where
  pub reach : (cs : List (Change ℕ)) → Aim t p q cs → Reach t (state_of u c cs) (state_of u' c' cs)
  pub stands : Stands t u' c'
  pub kept : Kept (out c') u u'
  pub grows : out c ≤ out c'

-- ---- so too on the table with the values l, of which some are ahead
abbrev pub valuing : Table → List ℕ → Table
valuing t l = table t.dist t.size l

pub record Readied (t u : Table) (c : Cursor) (p q : ℕ) : Type 0 where
  pub values : List ℕ
  pub ahead : Ahead values t.value u.value c
  pub ready : Ready (valuing t values) u c p q

pub record Carried (t : Table) (l : List ℕ) (u : Table) (c : Cursor) (p q : ℕ) (u' : Table) (c' : Cursor) : Type 0 where
  pub moved : Moved (valuing t l) u c p q u' c'
  pub ahead : Ahead l t.value u'.value c'
  pub level : out c' + row c ≡ out c + row c'
  pub onward : row c ≤ row c'
  pub same : c'.valued.0 ≡ c.valued.0

pub record Went (t u : Table) (c : Cursor) (p q : ℕ) (u' : Table) (c' : Cursor) : Type 0 where
  pub went : (l : List ℕ) → Ahead l t.value u.value c → Ready (valuing t l) u c p q → Carried t l u c p q u' c'

-- how far it is to the end
abbrev pub ahead : Table → Cursor → ℕ
ahead t c = (length t.size - row c) * suc most_rows + c.parent.0
