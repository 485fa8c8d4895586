pub mod Mirroring
pub mod Queues
pub mod Given
pub mod Requests
pub mod Ends
pub mod Stepping
