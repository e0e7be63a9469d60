-- Read these, in this order:
-- Office: what an office file says, and what it means
-- Words: how names, clocks, registers, prices and hours are written
-- Checks: checks in an order, and the first that fails
-- Text: the office of a text, or its first refusal
-- Owners: the owner at a second
-- Cells: shares by owner, period and band
-- Shares: how a difference is shared out
-- Pieces: the pieces that shares are sums of
-- Laws: what follows
pub mod Office
pub mod Words
pub mod Checks
pub mod Text
pub mod Owners
pub mod Cells
pub mod Shares
pub mod Pieces
pub mod Laws
-- and these where a file above names them:
-- Ids: ids in the file's order, and names of directions
-- Held: what a contract sees of an office
-- Faults: numbers, names and lines of refusals
pub mod Ids
pub mod Held
pub mod Faults
-- named by private functions, tests and proofs alone
pub mod inner
