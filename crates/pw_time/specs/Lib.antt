-- Read these, in this order:
-- Instants: which seconds are instants
-- Civil: dates and times that exist, and the second that they are
-- Texts: the forms of dates and times
-- Summer: summer time, local weekday and hour
-- Outcomes: what a text is answered
-- Written: the text of an instant
-- Laws: each text has one answer
-- Days: where local days and months begin
-- DayLaws: each local day begins once, at midnight, and lasts 23, 24 or 25 hours
pub mod Instants
pub mod Civil
pub mod Texts
pub mod Summer
pub mod Outcomes
pub mod Written
pub mod Laws
pub mod Days
pub mod DayLaws
-- and these where a file above names them:
-- Faults: numbers and names of refusals
pub mod Faults
-- named by private functions, tests and proofs alone
pub mod inner
