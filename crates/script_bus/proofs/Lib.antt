pub mod Places
pub mod Unplugs
pub mod Changes
pub mod Leaving
pub mod Found
pub mod Joining
pub mod Births
