-- What the calls on whole columns tell: row by row what the mappings of one row tell, and nothing else.
-- Assumes nothing.
use Prim.Native.Nat.{ℕ, zero, suc, ◌+◌, ◌<◌}
use native.Mathlib.Omega.{arith}
use mathlib.Core.Path.{◌≡◌, refl, sym, ap, ◌∙◌}
use mathlib.Core.Bool.{Bool, ◌&&◌}
use mathlib.Core.List.{List, map}
use lib.ListN.{get_or, get_or-map}
use Rattle.std.specs.Prelude.{Result}
use Rattle.plan.specs.declared.Record.{Record}
use Rattle.plan.specs.declared.Answer.{Answer}
use Rattle.plan.specs.declared.refusal.Refusal.{Refusal}
use Rattle.plan.specs.Told.{answer_told}
use Rattle.plan.proofs.Apart.{answer_once}
use Rattle.plan.specs.Verdict.{Passed}
use Rattle.plan.specs.Table.{Table, even}
use Rattle.plan.specs.Paint.{Origin, origins}
use Rattle.plan.specs.Call.{result, judged}
use Rattle.plan.specs.Mapping.{row, fate, origin_at, mark, number, new_numbers, record_of, row_of, Places, OldDone, NewDone}
use Rattle.plan.proofs.Judged.{accepted-judged}
use Rattle.plan.proofs.Survivors.{there_and_back}
use Rattle.judge_record.proofs.Ways.{fair}
use Rattle.along.proofs.Reaching.{passes}

-- the number of each old row is that of its fate
number_at : (os : List Origin) (n q x : ℕ) → x < n → get_or (new_numbers os n q) x 0 ≡ number (fate os 0 (q + x))
number_at os zero q x h = absurd (omega arith)
number_at os (suc n) q zero h = ap (λ (r : ℕ). number (fate os 0 r)) (omega arith)
number_at os (suc n) q (suc x) h =
    number_at os n (suc q) x (omega arith) ∙ ap (λ (r : ℕ). number (fate os 0 r)) (omega arith)

pub every_old : (os : List Origin) (n x : ℕ) → x < n → get_or (new_numbers os n 0) x 0 ≡ number (fate os 0 x)
every_old os n x h = number_at os n 0 x h ∙ ap (λ (r : ℕ). number (fate os 0 r)) (omega arith)

-- and no row has the number that marks a row which is gone
pub mark-alone : (t i : Table) (l : List Record) (x m : ℕ) → judged (even t && even i) t i l ≡ Passed
    → fate (origins (result t i l)) 0 x ≡ row m → m < mark
mark-alone t i l x m h e =
    let a = accepted-judged (even t && even i) t i l h in
    omega (arith, a.few-rows, (there_and_back t i l (fair t i l (passes t i l h)) x m e).0)

-- the record and the row of each new row are those of its origin
pub every_new : (os : List Origin) (x : ℕ)
    → (get_or (map record_of os) x (record_of (Origin.old 0)) ≡ record_of (origin_at os x))
    × (get_or (map row_of os) x (row_of (Origin.old 0)) ≡ row_of (origin_at os x))
every_new os x = (get_or-map record_of os x (Origin.old 0), get_or-map row_of os x (Origin.old 0))

-- the contracts determine answer and columns
pub one_old : (evens : Bool) (t i : Table) (l : List Record) (u : List ℕ) (a b : Answer) (w v : List ℕ)
    → OldDone evens t i l u a w → OldDone evens t i l u b v → (a ≡ b) × (w ≡ v)
one_old evens t i l u a b w v d e = (d.answered ∙ sym e.answered, d.column ∙ sym e.column)

pub one_new : (evens : Bool) (t i : Table) (l : List Record) (u : Places) (a b : Answer) (w v : Places)
    → NewDone evens t i l u a w → NewDone evens t i l u b v
    → (a ≡ b) × (w.records ≡ v.records) × (w.rows ≡ v.rows)
one_new evens t i l u a b w v d e =
    (d.answered ∙ sym e.answered, d.records ∙ sym e.records, d.rows ∙ sym e.rows)

-- and with it what the code hands back
pub one_old_result : (evens : Bool) (t i : Table) (l : List Record) (u : List ℕ) (a b : Result ℕ Refusal)
    (w v : List ℕ) → OldDone evens t i l u (answer_told a) w → OldDone evens t i l u (answer_told b) v
    → (a ≡ b) × (w ≡ v)
one_old_result evens t i l u a b w v d e =
    let o = one_old evens t i l u (answer_told a) (answer_told b) w v d e in
    (answer_once (answer_told b) a b o.0 refl, o.1)

pub one_new_result : (evens : Bool) (t i : Table) (l : List Record) (u : Places) (a b : Result ℕ Refusal)
    (w v : Places) → NewDone evens t i l u (answer_told a) w → NewDone evens t i l u (answer_told b) v
    → (a ≡ b) × (w.records ≡ v.records) × (w.rows ≡ v.rows)
one_new_result evens t i l u a b w v d e =
    let o = one_new evens t i l u (answer_told a) (answer_told b) w v d e in
    (answer_once (answer_told b) a b o.0 refl, o.1, o.2)
