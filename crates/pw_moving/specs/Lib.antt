-- Read these, in this order:
-- Names: the lists of an office file whose lines have names, and where a name stands in another file
-- Renaming: records by the names of another office file, and which of them can be carried into it
-- Changes: what a new office file says otherwise than the old one
-- Adopting: when a new office file may take the old one's place
-- Agreeing: when two offices agree on what the records of a set ask for
-- Laws: what follows
pub mod Names
pub mod Renaming
pub mod Changes
pub mod Adopting
pub mod Agreeing
pub mod Laws
-- and this where the model of a renaming names it:
-- Tables: the places that a renaming keeps
pub mod Tables
-- named by private functions, tests and proofs alone
pub mod inner
