pub mod Came
pub mod Named
