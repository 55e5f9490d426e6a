pub mod Front
pub mod Anew
pub mod Laws
