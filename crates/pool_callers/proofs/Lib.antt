pub mod Readied
pub mod WorthyLists
pub mod Submitting
