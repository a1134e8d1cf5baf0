pub mod Grammar
pub mod Running
pub mod Script
pub mod Spelling
pub mod Wording
