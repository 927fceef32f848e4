-- How the pass is proved.
--
--   Values        what a list over plain values means
--   ValuesAhead   a rename is a matter of values alone
--   RecordFacts   what the tests of a record tell the pass
--   Vain          a record that is vain, and what a record does to the rows
--   Takes         a record is taken at its place
--   Given         what the pass is given: a tree, and room for the result
--   Begun         the root's row is written
--   Ones          the next record
--   Ended         the rows behind the last
--   AtOnce        a step behind the last: a row is closed, or all rows under it are copied at once
pub mod Values
pub mod ValuesAhead
pub mod RecordFacts
pub mod Vain
pub mod Takes
pub mod Given
pub mod Begun
pub mod Ones
pub mod Ended
pub mod AtOnce
