pub mod Departure
pub mod Compare
pub mod Laws
pub mod Answers
pub mod Steps
