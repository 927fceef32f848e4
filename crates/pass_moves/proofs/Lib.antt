-- How the moves are proved.
--
--   Rows     the laws of tables, some rows at a time
--   Copies   a copy, number by number, and values ahead
pub mod Rows
pub mod Copies
