-- How the walker is proved.
--
--   Walkers   a walker's steps are those of the walk over its column
--   Unique    one answer, and one walker behind it
pub mod Walkers
pub mod Unique
