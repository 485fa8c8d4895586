pub mod Works
pub mod Steps
pub mod Parts
pub mod Begins
