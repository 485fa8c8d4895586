pub mod Finishes
pub mod Nodes
pub mod Queues
pub mod Steps
pub mod Walks
