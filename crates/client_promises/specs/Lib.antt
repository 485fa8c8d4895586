pub mod Registering
pub mod Notices
