pub mod Roles
pub mod Verbs
pub mod Words
