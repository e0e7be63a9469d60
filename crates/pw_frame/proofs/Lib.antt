pub mod Register
pub mod SingleBytes
pub mod BlockChecks
pub mod Unique
pub mod NoFault
pub mod Fronts
pub mod OneFault
pub mod OneOutcome
