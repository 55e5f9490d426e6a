pub mod Making
pub mod Anew
pub mod Laws
