-- The laws of the definitions, and the theorems named by demand.
--
--   general      Kit (tests, numbers, lists), Columns (a forest's columns), Rows (a column read at a row), Verdicts
--                (tests one after the other), FourKinds (what a record of each kind is read as)
--   demand 1     Tests (what the tests of an axis tell), Judged (what it takes to pass tests 1 to 9), Unused (what a
--                kind doesn't use is not read), Refusals (a refused call is refused for a published reason)
--   demand 2     Readback (a tree's columns read back), Sound (sound exactly when some tree has the table; one tree
--                only), Planned (the tree that a sound table spells), Cells, Kin, Axes (parents, children, subtrees),
--                OpenPlaces (three definitions of an open place are one)
--   demand 3     Standing, Single, Cut (where a change stands to a tree), Pass (the pass over a forest), Faithful (the
--                pass gives the meaning), Fits (a list that passes tests 5, 7 and 8), Tested (what it takes to pass),
--                Kept (what is vain may be dropped), Trimmed (the kept changes from left to right), OnePass (the
--                theorem), Legal (each record is a legal change when its turn comes), Roots (the root stays, so the new
--                table is sound), Relabel (labels before or after)
--   mappings     Merge (the labels after a list are a merge), Mapping (the fate of a row in it), Origins (the origins
--                of a result, the paper's formula), Survivors (the mappings are inverse on survivors, which keep their
--                order), Following, Said, AtRecord (one row followed through the records)
--   Cases        cases A to L hold
pub mod Kit
pub mod Columns
pub mod Rows
pub mod Verdicts
pub mod Apart
pub mod FourKinds
pub mod Readback
pub mod Sound
pub mod Planned
pub mod Unused
pub mod Cells
pub mod Kin
pub mod Tests
pub mod Axes
pub mod OpenPlaces
pub mod Standing
pub mod Single
pub mod Cut
pub mod Pass
pub mod Faithful
pub mod Fits
pub mod Tested
pub mod Judged
pub mod Kept
pub mod Trimmed
pub mod OnePass
pub mod Legal
pub mod Roots
pub mod Refusals
pub mod Relabel
pub mod Merge
pub mod Mapping
pub mod Origins
pub mod Survivors
pub mod Following
pub mod Said
pub mod AtRecord
pub mod Cases
