pub mod Label
pub mod Read
pub mod Trips
pub mod Steps
