-- Read these, in this order:
-- Heads: the head of a request
-- Audience: who is let in
-- Requests: what a stream of bytes asks
-- Replies: the bytes of a reply
-- Runs: what a service answers, and what a conversation is
-- Routes: where a request goes
-- Steps: what a book answers
-- Many: what serving many connections comes to
-- Headline: what conversations with a book come to
-- Laws: a stream has one list of requests
pub mod Heads
pub mod Audience
pub mod Requests
pub mod Replies
pub mod Runs
pub mod Routes
pub mod Steps
pub mod Many
pub mod Headline
pub mod Laws
-- and these where a file above names them:
-- Writing: what is written of a text
-- Faults: numbers, names and lines of the faults of a stream
pub mod Writing
pub mod Faults
-- named by private functions, tests and proofs alone
pub mod inner
