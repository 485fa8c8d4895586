pub mod Errors
pub mod Files
pub mod Runs
