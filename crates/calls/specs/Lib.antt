pub mod Encoding
pub mod Chains
pub mod Running
pub mod Steps
