pub mod Print
pub mod Laws
pub mod Answers
pub mod Steps
