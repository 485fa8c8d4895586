pub mod Parts
pub mod Legal
pub mod Backslashes
pub mod Scans
pub mod Places
