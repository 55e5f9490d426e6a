pub mod Server
pub mod Hearing
pub mod Timers
pub mod Verbs
