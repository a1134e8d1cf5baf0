pub mod Probes
pub mod Queues
pub mod Ready
