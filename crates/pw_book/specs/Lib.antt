-- Read these, in this order:
-- Posting: what an upload does, and what it is answered
-- Cost: how many calls of the store and rows an upload takes
-- Questions: what a question leaves as it is
-- After: the records after uploads, and runs of them
-- Crashes: what a crash leaves behind uploads
pub mod Posting
pub mod Cost
pub mod Questions
pub mod After
pub mod Crashes
-- and these where a file above names them:
-- Asking: what asking a shelf leaves as it is
-- Listed: points, with one before them
-- Acceptance: the line of an accepted upload
-- Faults: numbers, names and lines of faults
pub mod Asking
pub mod Listed
pub mod Acceptance
pub mod Faults
-- named by private functions, tests and proofs alone
pub mod inner
-- lemmas that stand here since a model or a kept fact names them
pub mod lemmas
