-- Told: by which words the parts of a command are told
pub mod Told
