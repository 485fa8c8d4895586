pub mod Cuts
pub mod Folding
pub mod Kept
pub mod Ids
pub mod Faults
