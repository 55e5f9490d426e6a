pub mod Members
pub mod Heard
pub mod Group
pub mod Same
pub mod Settles
pub mod Days
pub mod Anew
pub mod Rules
