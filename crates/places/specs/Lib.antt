pub mod Roles
pub mod Words
pub mod Order
pub mod Steps
