pub mod Answers
pub mod Alike
