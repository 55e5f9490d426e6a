pub mod Trips
pub mod Laws
pub mod Periods
