pub mod Continued
pub mod Deeds
pub mod Histories
pub mod Holding
pub mod Orderly
pub mod Steps
pub mod Whereabouts
