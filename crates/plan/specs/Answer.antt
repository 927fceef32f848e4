-- What a call hands back: a number, a place and a count.
-- Assumes nothing.
use Rattle.std.specs.Prelude.{ℕ}
use Rattle.plan.specs.declared.Answer.{Answer}

abbrev pub accepted : ℕ → Answer
accepted n = record { number = 0; place = 0; count = n }

abbrev pub refused : (number place count : ℕ) → Answer
refused number place count = record { number = number; place = place; count = count }
