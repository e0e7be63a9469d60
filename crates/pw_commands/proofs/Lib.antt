pub mod Figures
pub mod Few
pub mod Opened
pub mod Piped
pub mod Told
pub mod Ported
pub mod Crashed
