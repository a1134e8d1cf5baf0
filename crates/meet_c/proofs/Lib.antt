mod AsBox
pub mod Places
pub mod Taking
