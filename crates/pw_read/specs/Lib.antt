-- Read these, in this order:
-- Lines: what is printed of a data set
-- Instant: of a frame's instant
-- Text: of a body
-- FaultLine: the line of a refusal
-- Run: what a run does to its streams
pub mod Lines
pub mod Instant
pub mod Text
pub mod FaultLine
pub mod Run
-- named by private functions, tests and proofs alone
pub mod inner
