-- Read these, in this order:
-- State: what is known of a shelf
-- Changes: a content with one point, start or total changed
-- Left: what a crash may leave
-- Seconds: what a function of the second tells, before, behind and within
-- Rows: what calls answer, and how many rows that is
-- Calls: what calls have in common
-- Memory: all that is to be known of the store in memory
pub mod State
pub mod Changes
pub mod Left
pub mod Seconds
pub mod Rows
pub mod Calls
pub mod Memory
-- and these where a file above names them:
-- Orders: the orders of the maps that a store in memory keeps
-- Content: what a store in memory keeps, now, and when its upload began
-- Standing: what its parts tell
-- Added: what its records were before some were added
-- Table: what a map tells, some of whose keys an upload has changed
-- Count: what a shelf that counts its calls knows
-- Plan: when such a shelf fails
pub mod Orders
pub mod Content
pub mod Standing
pub mod Added
pub mod Table
pub mod Count
pub mod Plan
-- named by private functions, tests and proofs alone
pub mod inner
