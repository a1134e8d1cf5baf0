pub mod Line
pub mod Lists
pub mod OnBases
pub mod Tellings
pub mod Told
