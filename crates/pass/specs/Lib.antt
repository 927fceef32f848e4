-- The words of the pass.
--
--   Values     a list over plain values, without paint
--   Asked      what the pass is asked, and what it answers
--   Taking     one record: where its change is made, and the rows that come
--   Underway   how the pass goes on from record to record
pub mod Values
pub mod Asked
pub mod Taking
pub mod Underway
