pub mod Playing
pub mod Saying
