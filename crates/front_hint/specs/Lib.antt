pub mod Spots
pub mod Hints
