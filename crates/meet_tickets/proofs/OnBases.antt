pub mod Based
pub mod Folded
pub mod Folding
pub mod Laying
pub mod Opening
pub mod Unique
