pub mod Calls
pub mod Group
pub mod Rules
