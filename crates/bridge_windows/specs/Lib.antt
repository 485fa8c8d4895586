pub mod Ranges
pub mod Rooms
pub mod Clips
