pub mod Logs
pub mod Verdicts
