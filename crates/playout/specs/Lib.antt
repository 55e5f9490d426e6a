pub mod Version
pub mod Front
pub mod Writing
pub mod Channel
pub mod Chains
pub mod Laws
pub mod Steps
