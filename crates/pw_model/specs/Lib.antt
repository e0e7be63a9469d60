-- Read these, in this order:
-- References: the reference of a top-up
-- Same: when keys and records are the same, and their orders
-- Counting: which records count
-- Office: which records are of an office
-- Energy: the owner at a second, and energy
-- Payments: what was topped up, and the balance
-- Lists: falls, disputes, the readings of a register
-- Shelf: what a store holds, and when that is true
-- Laws: order counts nothing, nothing is lost, periods that change nothing
-- Bounds: how large totals are
pub mod References
pub mod Same
pub mod Counting
pub mod Office
pub mod Energy
pub mod Payments
pub mod Lists
pub mod Shelf
pub mod Laws
pub mod Bounds
-- and these where a contract of another crate names them:
-- Changes: what one more record changes, for the proofs of a book
-- Bearing: where one more record may change what is told, for the proofs of a book
-- Kinds: the records of a kind in a list
-- Seconds: what a function of the second tells, in order
pub mod Changes
pub mod Bearing
pub mod Kinds
pub mod Seconds
-- named by private functions, tests and proofs alone
pub mod inner
-- lemmas that stand here since a model or a kept fact names them
pub mod lemmas
