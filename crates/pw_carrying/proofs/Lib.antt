pub mod Latest
pub mod Listing
pub mod Missing
pub mod Sent
pub mod Uploads
pub mod NotSent
