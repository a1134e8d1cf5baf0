pub mod Choosing
pub mod Covering
pub mod Lookups
pub mod Telling
pub mod Tickets
