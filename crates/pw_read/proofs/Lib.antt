pub mod Runs
pub mod Shown
pub mod Unread
pub mod Told
pub mod Written
