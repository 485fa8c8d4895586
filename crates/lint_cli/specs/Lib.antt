pub mod Causes
pub mod Words
pub mod Names
pub mod Reports
pub mod Warnings
pub mod Lints
