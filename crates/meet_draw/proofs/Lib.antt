pub mod Changes
pub mod DrawnLines
pub mod DrawnTickets
pub mod Repeats
pub mod Rowing
pub mod Showing
pub mod TrueColumns
pub mod Truths
