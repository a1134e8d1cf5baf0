pub mod Admitted
pub mod Counted
pub mod Keeping
pub mod Partners
pub mod Refusing
pub mod Sides
