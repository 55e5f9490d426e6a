pub mod Leaving
pub mod Filling
pub mod Making
pub mod Staging
pub mod Pairing
