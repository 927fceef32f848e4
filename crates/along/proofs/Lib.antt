-- How the mappings along a list are proved.
--
--   Told         what their tests say, read back
--   Laying       numbers counted up, and laid over a column, piece by piece
--   Reaching     from record to record, whatever the mapping: where it stands, and what becomes of the rows up to there
--   OldRows      one old row
--   NewRows      one new row
--   OldColumns   every old row
--   NewColumns   every new row
pub mod Told
pub mod Laying
pub mod Reaching
pub mod OldRows
pub mod NewRows
pub mod OldColumns
pub mod NewColumns
