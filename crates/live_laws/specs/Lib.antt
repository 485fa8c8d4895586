pub mod Scripts
pub mod Notes
pub mod Talks
pub mod Laws
