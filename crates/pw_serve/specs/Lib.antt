-- Read these, in this order:
-- Exchanges: what is asked in a stream, and one order of requests and replies
-- Connections: what a connection still sends and was told, and what one call does to it
-- Served: what serving many connections comes to
pub mod Exchanges
pub mod Connections
pub mod Served
-- and this where a file above names it:
-- Answered: what a service answers to the bytes that were received
pub mod Answered
-- named by private functions and proofs alone
pub mod inner
