pub mod Pieces
pub mod Puts
pub mod Saying
