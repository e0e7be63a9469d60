-- Piping: what the conversation of `pipe` comes to
pub mod Piping
-- Busy: what a client is told for whom no place is free
pub mod Busy
-- Listed: why a list of uploads isn't read
pub mod Listed
-- Months: which page of a month words name
pub mod Months
