pub mod Handles
pub mod Runs
pub mod Outcomes
