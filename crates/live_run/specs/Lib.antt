pub mod Errors
pub mod Views
pub mod Talks
pub mod Polls
pub mod Probes
pub mod Runs
