-- Read these, in this order:
-- Files: what a store's file and its log are to an opening
-- Verdicts: what each command does with them
-- Causes: why a store can't be opened, in words
pub mod Files
pub mod Verdicts
pub mod Causes
