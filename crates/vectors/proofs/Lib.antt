pub mod Checking
pub mod Numbers
pub mod Building
pub mod Comparing
pub mod Tallying
pub mod Pairing
