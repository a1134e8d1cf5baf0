pub mod Answers
pub mod Handles
pub mod PoolRuns
pub mod Submits
