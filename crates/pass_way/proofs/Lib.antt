-- How the way is proved.
--
--   Machine          steps one after the other
--   MachineForest    the machine over the rows of a forest writes what the pass over that forest gives
--   MachineTable     the machine on the table of a tree
--   MachineBetween   the machine between two changes
--   Line, Pieces     the line of open rows; a stretch of rows under the open row
--   Revalued         a table with other values
--   Grown, Chain     what a move writes; moves one after the other
--   Steps            a step of the way
pub mod Machine
pub mod MachineForest
pub mod MachineTable
pub mod MachineBetween
pub mod Line
pub mod Pieces
pub mod Revalued
pub mod Grown
pub mod Chain
pub mod Steps
