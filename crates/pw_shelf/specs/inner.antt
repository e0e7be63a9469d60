pub mod Kinds
pub mod Held
pub mod Plan
pub mod Table
