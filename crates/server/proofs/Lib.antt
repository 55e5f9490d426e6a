pub mod Hearing
pub mod Timing
pub mod Sent
pub mod Acting
