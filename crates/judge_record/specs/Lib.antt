-- What the tests of one record answer, what it takes to go along a list, and what their contracts cite.
pub mod Trial
pub mod Way
