-- Read these, in this order:
-- Time: what stands at seconds, and sums over them
-- Flow: neighbours, the level between them, the flow of a second
-- Energy: the energy of a register over the seconds that are kept
-- Laws: what follows: pieces add up, nothing is lost
pub mod Time
pub mod Flow
pub mod Energy
pub mod Laws
-- and these where a file above names them:
-- Pairs: the pairs of a list of points
-- Changes: laws on pairs, and on what one more point or another owner changes
-- Plain: what the plain program is given
pub mod Pairs
pub mod Changes
pub mod Plain
-- named by private functions, tests and proofs alone
pub mod inner
