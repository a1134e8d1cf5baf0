pub mod Asking
pub mod Chronicles
pub mod Drained
pub mod Ending
pub mod Faults
pub mod Making
pub mod Stopping
pub mod Told
