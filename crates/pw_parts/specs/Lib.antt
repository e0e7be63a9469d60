-- Read these, in this order:
-- Parts: the points, starts and totals of a set of records, as lists
-- Laws: a set has no two such lists, and a shelf's content is true exactly where it is told by them
pub mod Parts
pub mod Laws
-- and these where a contract names them:
-- Changes: what totals lose and gain, and what pairs of readings give to them
-- Groups: how many records behind one have its key
-- Shown: when a reading was taken, and what it shows
pub mod Changes
pub mod Groups
pub mod Shown
-- named by private functions, tests and proofs alone
pub mod inner
