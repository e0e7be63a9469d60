-- Read these, in this order:
-- Names: ids and names of the office file
-- Cents: amounts
-- WattHours: energies without a unit
-- Row: one row
-- Rows: bodies of assignments, top-ups and withdrawals
-- Told: what the sets of a frame tell
-- Origin: the meter and the instant of a frame
-- Shown: which registers the sets of a frame show
-- Listed: the order of entries
-- Frames: bodies of telegrams and readouts
-- Uploads: what an upload gives, or why it is refused
-- Laws: no upload has two outcomes
pub mod Names
pub mod Cents
pub mod WattHours
pub mod Row
pub mod Rows
pub mod Told
pub mod Origin
pub mod Shown
pub mod Listed
pub mod Frames
pub mod Uploads
pub mod Laws
-- and these where a file above names them:
-- Causes: numbers, names and lines of refusals
pub mod Causes
-- named by private functions, tests and proofs alone
pub mod inner
