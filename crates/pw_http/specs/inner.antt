pub mod Added
pub mod Received
pub mod Fields
pub mod Turns
pub mod Answered
pub mod Large
pub mod Answering
pub mod Fronts
