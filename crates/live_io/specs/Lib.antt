pub mod Turns
pub mod Files
