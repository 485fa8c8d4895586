pub mod Weaving
pub mod Explaining
pub mod Reading
pub mod Answering
