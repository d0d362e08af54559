pub mod Clones
pub mod Doubles
