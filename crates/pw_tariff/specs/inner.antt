pub mod Starts
pub mod Pieces
pub mod Shares
pub mod Checks
pub mod Held
