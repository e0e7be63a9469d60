-- Doors: whether clients are accepted
pub mod Doors
