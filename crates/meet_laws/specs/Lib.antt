pub mod Chapters
pub mod Laws
pub mod Rows
pub mod Erasing
pub mod Gone
pub mod Hearing
pub mod Promise
pub mod Tally
