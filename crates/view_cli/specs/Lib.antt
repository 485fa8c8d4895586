pub mod Viewed
pub mod Answers
