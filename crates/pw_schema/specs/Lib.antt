-- Read these, in this order:
-- Tables: the tables of each version
-- Texts: the texts that make them
-- Calls: what calls leave of a connection, by their answer
-- Conflicts: whether the texts of a file's objects say what becomes of a row that breaks a rule
-- Fresh: what a new store holds
-- Raised: what bringing a store to version 3 makes of its trees
-- Rows: what the rows of the tables say
-- Judging: which rows are of an office, and what the row of `office` says
-- Judges: what a judge is behind the rows that it took, one at a time
pub mod Tables
pub mod Texts
pub mod Calls
pub mod Conflicts
pub mod Fresh
pub mod Raised
pub mod Rows
pub mod Judging
pub mod Judges
-- named by private functions, tests and proofs alone
pub mod inner
