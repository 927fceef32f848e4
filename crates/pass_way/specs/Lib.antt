-- The words of the way from one record's place to the next.
--
--   Machine   the pass over columns, a step at a time: State, step, Reach. Aim: the place of the next change
--   Line      the line of open rows
--   Walk      where the pass stands, as a state of the machine, and what its moves do
pub mod Machine
pub mod Line
pub mod Walk
