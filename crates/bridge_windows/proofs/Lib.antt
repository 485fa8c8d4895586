pub mod Meets
pub mod Narrowing
pub mod Levels
pub mod Finding
pub mod Stepping
