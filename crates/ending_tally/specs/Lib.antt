pub mod Sorting
pub mod Patterns
pub mod Plain
pub mod Tallies
pub mod Steps
pub mod Nodes
