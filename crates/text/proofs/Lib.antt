pub mod Digits
pub mod Reading
pub mod Writing
pub mod Trips
pub mod Lines
