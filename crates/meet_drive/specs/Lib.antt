pub mod Driven
pub mod Text
