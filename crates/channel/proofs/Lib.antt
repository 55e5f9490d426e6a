pub mod Answering
pub mod Resting
