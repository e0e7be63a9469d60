pub mod Given
pub mod Groups
pub mod Lines
pub mod Numbers
