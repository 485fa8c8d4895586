pub mod Stages
pub mod Parts
pub mod Requests
