pub mod FrontChecks
pub mod Outputs
pub mod Laws
pub mod Clients
pub mod Turns
