pub mod Numbers
pub mod Filling
pub mod Showing
