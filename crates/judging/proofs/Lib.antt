pub mod Shortness
pub mod Standing
pub mod Asking
pub mod Laws
