pub mod Tries
pub mod Handles
