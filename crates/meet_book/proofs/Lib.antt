pub mod Draining
pub mod Listing
pub mod Standing
