pub mod Turning
pub mod Spending
