pub mod Civil
pub mod Texts
