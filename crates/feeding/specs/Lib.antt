pub mod Fed
pub mod Moves
pub mod Bound
pub mod Laws
pub mod Steps
