-- Words: what holds of each command that words ask for
pub mod Words
-- named by private functions alone
pub mod inner
