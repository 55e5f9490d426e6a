pub mod Demand
pub mod Examples
pub mod Ordered
pub mod Sending
pub mod Chains
