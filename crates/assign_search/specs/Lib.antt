pub mod Fixed
pub mod Walking
pub mod Watching
