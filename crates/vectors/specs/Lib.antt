pub mod Found
pub mod Check
pub mod Days
pub mod Tally
pub mod Pairs
