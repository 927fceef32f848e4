-- What comes of a bulk or single call, by its contract: what an accepted call writes, what a refused one leaves, what
-- the count is, what the number alone tells; and the contract determines the outcome.
-- Assumes nothing.
use Prim.Native.Nat.{ℕ, ◌≤◌, ◌<◌}
use native.Mathlib.Omega.{arith}
use mathlib.Core.Path.{◌≡◌, refl, sym, ap, ◌∙◌}
use mathlib.Core.Bool.{Bool, true}
use mathlib.Core.List.{List, [], ◌∷◌}
use lib.ListN.{length}
use Rattle.std.specs.Prelude.{Result}
use Rattle.plan.specs.declared.Record.{Record}
use Rattle.plan.specs.declared.Answer.{Answer}
use Rattle.plan.specs.declared.refusal.Refusal.{Refusal}
use Rattle.plan.specs.Told.{answer_told}
use Rattle.plan.proofs.Apart.{answer_once}
use Rattle.plan.specs.Verdict.{Verdict}
use Rattle.plan.specs.Verdict.{Passed, Failed}
use Rattle.plan.proofs.Refusals.{refused_for, reason_number, reason_rows}
use Rattle.plan.specs.Answer.{accepted, refused}
use Rattle.plan.specs.Tree.{count, relabel}
use Rattle.plan.specs.Table.{Table}
use Rattle.plan.specs.Change.{single, meaning}
use Rattle.plan.specs.Paint.{old, plan, bare, written}
use Rattle.plan.specs.Records.{change, changes}
use Rattle.plan.specs.Call.{result, bulk, answer, over, Done}
use Rattle.plan.proofs.Columns.{length-sizes, count-relabel}

module _ (evens : Bool) (t i : Table) (l : List Record) (u : Table) where
  -- the table of the tree that all records mean, the vain ones too, applied singly and the last first
  abbrev pub meant : Table
  meant = written (meaning (changes i 0 l) (plan old t))

  rows : count (result t i l) ≡ length meant.size
  unfolding result
  rows =
      let f = meaning (changes i 0 l) (plan old t) in
      sym (length-sizes (relabel bare f) ∙ count-relabel bare f)

  module _ (a : Answer) (w : Table) (d : Done evens t i l u a w) where
    -- accepted: the first rows are that table, the rows behind stay, and the count is its length
    pub accepted_call : bulk evens t i l u ≡ Passed → (a ≡ accepted (length meant.size)) × (w ≡ over meant u)
    unfolding result
    accepted_call e = (d.answered ∙ rw (e, rows), d.columns ∙ rw e)

    -- refused: the number and place of the first test that fails, and nothing is written
    pub refused_call : (n p c : ℕ) → bulk evens t i l u ≡ Failed n p c → (a ≡ refused n p c) × (w ≡ u)
    refused_call n p c e = (d.answered ∙ rw e, d.columns ∙ rw e)

    -- refused by test 9 or 10: the count is that table's length
    pub rows_told : (n p c : ℕ) → bulk evens t i l u ≡ Failed n p c → 9 ≤ n → a ≡ refused n p (length meant.size)
    rows_told n p c e h =
        (refused_call n p c e).0 ∙ rw (reason_rows (refused_for evens t i l u n p c e) h ∙ rows)

    -- the number alone tells which it is
    pub number_accepts : a.number ≡ 0 → bulk evens t i l u ≡ Passed
    number_accepts e = by_verdict (bulk evens t i l u) refl (ap (λ (x : Answer). x.number) d.answered)
      where
        by_verdict : (v : Verdict) → bulk evens t i l u ≡ v → a.number ≡ (answer v (count (result t i l))).number
            → bulk evens t i l u ≡ Passed
        by_verdict Passed h k = h
        by_verdict (Failed n p c) h k =
            absurd (omega (arith, reason_number (refused_for evens t i l u n p c h)))

    pub number-refuses : 0 < a.number → bulk evens t i l u ≡ Failed a.number a.place a.count
    number-refuses e = by_verdict (bulk evens t i l u) refl d.answered
      where
        by_verdict : (v : Verdict) → bulk evens t i l u ≡ v → a ≡ answer v (count (result t i l))
            → bulk evens t i l u ≡ Failed a.number a.place a.count
        by_verdict Passed h k = absurd (omega (arith, ap (λ (x : Answer). x.number) k))
        by_verdict (Failed n p c) h k = rw k h

    -- the contract determines the outcome
    pub one_outcome : (b : Answer) (v : Table) → Done evens t i l u b v → (a ≡ b) × (w ≡ v)
    one_outcome b v e = (d.answered ∙ sym e.answered, d.columns ∙ sym e.columns)

  -- and with it what the code hands back
  pub one_result : (a b : Result ℕ Refusal) (w v : Table) → Done evens t i l u (answer_told a) w
      → Done evens t i l u (answer_told b) v → (a ≡ b) × (w ≡ v)
  one_result a b w v d e =
      let o = one_outcome (answer_told a) w d (answer_told b) v e in
      (answer_once (answer_told b) a b o.0 refl, o.1)

-- the single call: the table of the tree changed once
pub changed_once : (t i : Table) (r : Record) (u : Table) (a : Answer) (w : Table) → Done true t i (r ∷ []) u a w
    → bulk true t i (r ∷ []) u ≡ Passed → w ≡ over (written (single (change i 0 r) (plan old t))) u
unfolding changes
changed_once t i r u a w d e = (accepted_call true t i (r ∷ []) u a w d e).1
