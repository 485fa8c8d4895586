pub mod Movers
pub mod Removed
pub mod Below
pub mod Causes
pub mod Done
