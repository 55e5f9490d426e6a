pub mod Digits
pub mod Labels
pub mod Trips
pub mod Rows
