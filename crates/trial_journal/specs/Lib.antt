pub mod ByKind
pub mod Journals
