pub mod Worlds
pub mod Differences
pub mod Kept
