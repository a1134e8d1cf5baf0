pub mod Askings
pub mod Awaited
pub mod Looked
pub mod Histories
pub mod Reasons
pub mod Interrupting
pub mod Takings
pub mod Wholes
