-- Read these, in this order:
-- Content: what the tables hold
-- Keyed: the rows of a table that has a key
-- Frontier: what is remembered of a register
-- Waiting: points that wait to be written
-- Kept: what is known of a store over SQL
-- Opening: what an opening finds, and why it is refused
-- Left: what each database that a crash may leave keeps of the store that was opened
-- OpenStore: what is told of a store that was opened
-- Faults: the number, name and line of an opening's fault
pub mod Content
pub mod Keyed
pub mod Frontier
pub mod Waiting
pub mod Kept
pub mod Opening
pub mod Left
pub mod OpenStore
pub mod Faults
-- named by private functions, tests and proofs alone
pub mod inner
-- facts that kept data needs
pub mod lemmas
