pub mod Steps
pub mod Shown
pub mod Told
pub mod Outcomes
pub mod Halts
