pub mod Read
pub mod Day
pub mod Sheet
