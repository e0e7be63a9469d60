pub mod Latest
pub mod Stages
pub mod Unsent
