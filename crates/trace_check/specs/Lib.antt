pub mod Letters
pub mod Clients
pub mod Verdicts
pub mod Turns
