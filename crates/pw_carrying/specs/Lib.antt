-- Read these, in this order:
-- LastReading: the latest reading that isn't withdrawn
-- Lacking: what a book lacks of the entries of an upload
-- Unsent: which records of a book weren't sent
-- Carrying: the records of a book, carried into the book of another office
pub mod LastReading
pub mod Lacking
pub mod Unsent
pub mod Carrying
-- named by private functions, tests and proofs alone
pub mod inner
