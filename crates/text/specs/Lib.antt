pub mod Words
pub mod Digits
pub mod Number
pub mod Line
pub mod Write
pub mod Steps
pub mod Trips
