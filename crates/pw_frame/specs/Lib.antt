-- Read these, in this order:
-- Bytes: the bytes of a frame's framework
-- Crc: the CRC16 of a message, by its single bits
-- Check: the block check
-- Frame: a whole frame
-- FirstFault: what is wrong where no whole frame stands
-- Body: a body's reading, and its first fault
-- Laws: each body has one of them
pub mod Bytes
pub mod Crc
pub mod Check
pub mod Frame
pub mod FirstFault
pub mod Body
pub mod Laws
-- and these where a file above names them:
-- Hexadecimal: numbers in hexadecimal digits
-- Faults: numbers, names and texts of faults
pub mod Hexadecimal
pub mod Faults
-- named by private functions, tests and proofs alone
pub mod inner
