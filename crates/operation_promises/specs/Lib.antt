pub mod Movers
pub mod Below
pub mod Causes
pub mod Done
