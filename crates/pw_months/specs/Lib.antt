-- Read these, in this order:
-- Between: which seconds lie between two instants; energy, cost and top-ups there
-- Bills: the balance at an instant, and the bill of an interval
-- Laws: bills of adjoining intervals add up, up to the statement
-- Reaching: which records can change the bill of an interval
-- Why: a row for each piece of a pair of readings that gave energy
-- Worked: two bills worked by hand, and why one of them is so
pub mod Between
pub mod Bills
pub mod Laws
pub mod Reaching
pub mod Why
pub mod Worked
-- and these where a contract of another crate names them:
-- Window: which points and owners a book has to ask a store for
-- Pieces: the pieces of a pair of readings are rows of why
pub mod Window
pub mod Pieces
