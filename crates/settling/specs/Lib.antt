pub mod Demand
pub mod Examples
pub mod Sending
pub mod Whole
pub mod Figure
pub mod Chains
