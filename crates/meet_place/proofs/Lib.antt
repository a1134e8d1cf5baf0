pub mod Numbered
pub mod Folded
pub mod Fresh
pub mod Kept
pub mod Later
pub mod Lists
pub mod Stepped
