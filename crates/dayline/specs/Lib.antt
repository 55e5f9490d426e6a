pub mod DayLine
pub mod Steps
