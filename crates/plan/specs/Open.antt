-- Open places in the paper's words, over the columns of a table.
-- Assumes nothing.
use Rattle.std.specs.Prelude.{ℕ, ◌+◌, ◌<◌, ◌≡◌, ◌⊎◌, length, get_or}
use Rattle.plan.specs.Table.{Table}

module _ (t : Table) where
  abbrev pub dist_at : ℕ → ℕ
  dist_at r = get_or t.dist r 0

  abbrev pub size_at : ℕ → ℕ
  size_at r = get_or t.size r 0

  -- row c is a child of row q: its row number less its distance is q
  abbrev pub Child : (c q : ℕ) → Type 0
  Child c q = (c < length t.size) × (q + dist_at c ≡ c)

  -- p is an open place of q: p = q + 1, or p = c + size of c for a child c of q
  abbrev pub OpenPlace : (p q : ℕ) → Type 0
  OpenPlace p q = (p ≡ q + 1) ⊎ ((c : ℕ) × Child c q × (p ≡ c + size_at c))

  -- the test in constant time: q ends at p, or row p is a child of q
  abbrev pub QuickPlace : (p q : ℕ) → Type 0
  QuickPlace p q = (p ≡ q + size_at q) ⊎ Child p q
