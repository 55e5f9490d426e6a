pub mod Calling
pub mod Going
pub mod Ending
pub mod Encoded
pub mod Chains
