pub mod Rank
pub mod Heartbeat
pub mod Trips
