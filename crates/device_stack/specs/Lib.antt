pub mod Standing
pub mod Steps
pub mod Passing
pub mod Waiting
