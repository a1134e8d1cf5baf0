pub mod Booked
pub mod Booking
pub mod Draining
pub mod Listed
pub mod Received
