pub mod Readied
pub mod Ends
