pub mod Calls
pub mod Group
pub mod Sorting
pub mod Playing
