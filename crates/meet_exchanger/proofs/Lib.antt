pub mod Trying
pub mod GivenBack
