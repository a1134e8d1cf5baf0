pub mod Finding
pub mod Firsts
