pub mod Tellings
pub mod Names
