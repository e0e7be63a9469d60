-- Read these, in this order:
-- Limits: how long a client is waited for
pub mod Limits
-- Accepting: why no connection is accepted
pub mod Accepting
-- Unknown: that nothing is known of what a socket gives and takes
pub mod Unknown
-- named by private functions alone
pub mod inner
