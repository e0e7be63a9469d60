-- Read these, in this order:
-- Bytes: the bytes that part addresses and values
-- Line: texts, values, data sets, lines
-- Block: the sets of a block, and where its first bad line begins
-- Address: the code that an address spells
-- References: what a code stands for
-- FirstValue: the first value of a set
-- Value: the watt-hours that a value states
-- Laws: each has one answer
pub mod Bytes
pub mod Line
pub mod Block
pub mod Address
pub mod References
pub mod FirstValue
pub mod Value
pub mod Laws
-- and these where a file above names them:
-- Registers: the registers in their order, and their names
-- Coming: what a reader of a block has still to give
-- Answers: what each of its calls answers
-- Faults: numbers and names of faults
pub mod Registers
pub mod Coming
pub mod Answers
pub mod Faults
-- named by private functions, tests and proofs alone
pub mod inner
-- lemmas that stand here since a model or a kept fact names them
pub mod lemmas
