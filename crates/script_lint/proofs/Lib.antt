pub mod Exact
pub mod Stops
