pub mod Stages
pub mod Checks
pub mod Listed
pub mod Told
pub mod Calls
