pub mod Backs
pub mod Faults
pub mod Holds
pub mod Ledgers
pub mod Seats
pub mod Tending
