-- What the calls answer (`Answers`). What they tell row by row, and that their contracts determine the outcome
-- (`EveryRow`).
pub mod Answers
pub mod EveryRow
