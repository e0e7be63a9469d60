pub mod Counted
pub mod Places
pub mod Totals
pub mod Given
