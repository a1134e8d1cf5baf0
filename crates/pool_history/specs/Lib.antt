pub mod Checking
pub mod Inside
pub mod OneThread
pub mod Pushing
