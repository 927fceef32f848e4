-- The words of the moves.
--
--   Rows      tables, some rows at a time: first_rows, later_rows, rows behind rows; Room: each column has so many rows
--   Written   what each move needs, and what the new columns hold after it
pub mod Rows
pub mod Written
