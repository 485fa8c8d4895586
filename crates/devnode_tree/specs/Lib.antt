pub mod Entries
pub mod Trees
pub mod Rows
pub mod Identities
pub mod Counts
pub mod Cores
pub mod Walks
pub mod Bottoms
