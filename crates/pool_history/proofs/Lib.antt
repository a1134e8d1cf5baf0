pub mod Called
pub mod Faulty
pub mod Pushed
pub mod Taken
