pub mod Edges
pub mod SerialSets
pub mod Leaving
pub mod Relating
pub mod Searches
pub mod Queues
