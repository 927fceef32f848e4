-- How the bulk call and the single call are proved.
--
--   Settling   which test decides, and what is written
--   Outcomes    what the calls tell: accepted or refused, rows and counts, one outcome
pub mod Settling
pub mod Outcomes
