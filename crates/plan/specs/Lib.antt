-- The glossary: what the contracts say, in the order of the paper on the rules.
--
--   Tree      Forest: ordered trees. count, labels, sizes, dists: what a walk in preorder gives. from p: the forest
--             that starts at row p; at g p: the whole with that part changed. relabel: the same trees, other labels
--   Table     Table: the columns dist, size, value. table_of: a tree's table. spelled: columns read back as a forest.
--             sound: the table of one tree of 1 to 65,535 rows; TreeOf: that tree. run: the part of the insertions
--             from a row on
--   Change    Change: an insert, or a delete, rename or replace at a row. open_place: where a child can be put.
--             single: one change. meaning: a list, singly, the last first. legal, AllLegal: what a tree allows. lost,
--             skip, vain, kept: what a delete or replace makes vain
--   Open      OpenPlace: open places in the paper's words, over columns. QuickPlace: the test in constant time
--   Paint     Origin: an old row, or a row of a record's run. plan: a table's tree, painted with origins. written,
--             origins: the table and the origins of a painted tree
--   Records   change: what a record means. known, located, runs, follows, alone: tests 4 to 8 of a record.
--             failing: the first that fails. PassAll: all records of a list pass. Alike, Unread: what is not read
--   Way       vain: does a record go with the rows that another took away? brought, taken: the rows that come and go.
--             place_of: what a record asks of the tree. meeting: what it does to the rows
--   Answer    accepted, refused: the two kinds of answer
--   Verdict   Verdict: what tests say. Judgement: what the judgement does
--   Call      tested: tests 4 to 8 of a list. result: the tree that a list leads to. judged: tests 1 to 9. bulk:
--             tests 1 to 10. answer, held: what a call hands back, and what the new columns then hold; Done: both.
--             kept_of: the kept changes of a list. published: the judgement alone
--   Reasons   Fails, FailsAt: which record fails which test, and none lower. Judged, Reason: why a call on a list is
--             refused, one reason for each number
--   Lent      Lent: a list as it is lent, five columns. level: are they equally long? list: its records
--   Axes      parent, first child, next sibling and subtree on raw columns, as the paper says them
--   Mapping   fate: what became of an old row. origin_at: which row a new one was. queried: the tests of both mappings.
--             became, was: their answers. new_numbers, record_of, row_of: both as whole columns; mapped: the tests of
--             these calls; column_held: what a lent column then holds; OldDone, NewDone: what the calls do. come, left,
--             taken, Formula: the paper's formula for the new number of an old row
--   Told      failed: the number, place and count of a refusal. verdict_told and the like: what the code answers, read
--             as the paper's answers. read, read_list: lent columns as a table and as a list (in Table and Lent)
--   Handed    row_of, part_of, walk_of, step_of, became_of, was_of: the answers as structs of plain numbers
--   Cases     cases A to L of the worked plan
--
-- Names of the code's own types (Record, Verdict, Answer) stand under `declared`.
pub mod Tree
pub mod Table
pub mod Change
pub mod Open
pub mod Paint
pub mod Records
pub mod Way
pub mod Answer
pub mod Verdict
pub mod Call
pub mod Reasons
pub mod Lent
pub mod Axes
pub mod Mapping
pub mod Told
pub mod Handed
pub mod Cases
