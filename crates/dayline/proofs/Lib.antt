pub mod Good
pub mod Body
