pub mod Known
pub mod Own
pub mod Talks
pub mod Turns
pub mod Nows
pub mod Rows
