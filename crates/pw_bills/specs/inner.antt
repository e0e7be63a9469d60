pub mod Naming
pub mod Flows
pub mod Gathering
pub mod Rows
pub mod TopUpRows
pub mod Settling
pub mod LastReadings
