pub mod First
pub mod Best
pub mod Candidates
pub mod Lookups
pub mod Passes
