pub mod Aligning
