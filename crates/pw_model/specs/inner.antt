pub mod Search
pub mod Keys
pub mod Tariff
