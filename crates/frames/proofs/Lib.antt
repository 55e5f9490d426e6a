pub mod Playing
pub mod Fitting
pub mod Pulsing
pub mod Beating
pub mod Moving
pub mod Below
