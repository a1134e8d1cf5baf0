pub mod Lines
pub mod Taken
