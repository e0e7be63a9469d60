-- Read these, in this order:
-- Stretches: stretches of time, one behind another
-- Energies: the energies of an account in stretches of time
-- Why: why a bill is what it is
-- Reads: how many calls of the store and rows a question takes
-- Payments: the top-ups of an account between two instants
-- Billed: what a bill tells
-- ReadUpTo: up to when the meters of an account are read
pub mod Stretches
pub mod Energies
pub mod Why
pub mod Reads
pub mod Payments
pub mod Billed
pub mod ReadUpTo
-- named by private functions, tests and proofs alone
pub mod inner
