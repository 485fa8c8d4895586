pub mod Woven
pub mod Explained
pub mod Answers
pub mod Refusals
