-- The way along a list: what each record asks of the table, and what it does to the rows.
-- Assumes nothing.
use Rattle.std.specs.Prelude.{ℕ, ◌+◌, ◌-◌, Bool, cond, ◌&&◌, ◌||◌, List, leb, ltb, get_or}
use Rattle.plan.specs.declared.OldPre.{OldPre}
use Rattle.plan.specs.declared.NewPre.{NewPre}
use Rattle.plan.specs.declared.Record.{Record}
use Rattle.plan.specs.declared.Place.{Place}
use Rattle.plan.specs.declared.Stand.{Stand}
use Rattle.plan.specs.declared.Meeting.{Meeting}
use Rattle.plan.specs.declared.Meeting.TheVariants.{Vain, Renamed, Here}
use Rattle.plan.specs.Tree.{Forest, count, sizes}
use Rattle.plan.specs.Change.{open_place}
use Rattle.plan.specs.Records.{is_delete, is_insert, is_rename, is_replace}

abbrev pub old_pre : ℕ → OldPre
old_pre r = record { 0 = r }

abbrev pub new_pre : ℕ → NewPre
new_pre r = record { 0 = r }

-- ---- a record by itself
-- does it bring a run, does it take rows away?
abbrev pub has_run : Record → Bool
has_run r = is_insert r || is_replace r

abbrev pub removes_rows : Record → Bool
removes_rows r = is_delete r || is_replace r

-- is it vain, where the old rows from first up to end are taken away: an insert under one of them, or another change
-- of one but the first?
abbrev pub vain : (first end : ℕ) → Record → Bool
vain first end r =
    cond (is_insert r) (leb first r.parent && ltb r.parent end)
    (ltb first r.location && ltb r.location end)

-- the rows of its run, the rows that it takes away, and from where on
abbrev pub brought : (isize : List ℕ) → Record → ℕ
brought isize r = cond (has_run r) (get_or isize r.from 0) 0

abbrev pub taken : (size : List ℕ) → Record → ℕ
taken size r = cond (removes_rows r) (get_or size r.location 0) 0

abbrev pub taken_from : Record → ℕ
taken_from r = cond (removes_rows r) r.location 0

-- the old row at which the rows go on behind it
abbrev pub goes_on_at : (size : List ℕ) → Record → ℕ
goes_on_at size r = r.location + taken size r

-- ---- what its tests and its count ask of the tree; only an insert asks for an open place
unfoldable pub place_of : {A : Type 0} → Forest A → Record → Place
place_of t r =
    let q = r.parent in
    record {
      rows = count t;
      end = old_pre (goes_on_at (sizes t) r);
      opens = is_insert r && (ltb q (count t) && open_place t r.location q);
    }

-- ---- on the way
abbrev pub stand : (row out first end : ℕ) → Stand
stand row out first end =
    record { row = old_pre row; out = new_pre out; first = old_pre first; end = old_pre end }

abbrev pub start : Stand
start = stand 0 0 0 0

-- what the record r does, where n rows come with it and the old rows go on at e behind it
abbrev pub meeting : Stand → Record → (e n : ℕ) → Meeting
meeting s r e n =
    let p = r.location in
    cond (vain s.first.0 s.end.0 r) Vain
    (cond (is_rename r) (Renamed (stand s.row.0 s.out.0 0 0))
    (Here (old_pre p) n (stand e (s.out.0 + (p - s.row.0) + n) (taken_from r) (cond (removes_rows r) e 0))))
