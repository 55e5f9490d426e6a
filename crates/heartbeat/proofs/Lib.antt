pub mod Order
pub mod Fields
pub mod Line
pub mod Rows
pub mod Trips
pub mod Back
