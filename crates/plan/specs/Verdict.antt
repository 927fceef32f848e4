-- What tests say, and what the judgement does.
-- Assumes nothing.
use Rattle.std.specs.Prelude.{ℕ}

-- all passed; or the number of the first that failed, with the place at fault and a count
pub data Verdict : Type 0 where
  Passed : Verdict
  Failed : (number place count : ℕ) → Verdict

-- so many rows are needed; or the same of the test that failed
pub data Judgement : Type 0 where
  Needs : (rows : ℕ) → Judgement
  Refused : (number place count : ℕ) → Judgement
