pub mod Changed
pub mod Lookups
pub mod Members
pub mod Pigeons
pub mod Tally
