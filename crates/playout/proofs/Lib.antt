pub mod Choices
pub mod Fronts
pub mod Writings
pub mod Channels
pub mod Staying
pub mod Chains
