pub mod CallText
pub mod Judging
pub mod Reading
