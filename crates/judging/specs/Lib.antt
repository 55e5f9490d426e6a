pub mod Bounds
pub mod Judging
pub mod Laws
