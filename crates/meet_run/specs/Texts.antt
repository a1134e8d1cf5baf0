pub mod Blocks
pub mod Faults
pub mod Grammar
pub mod Reading
pub mod Words
pub mod Writing
