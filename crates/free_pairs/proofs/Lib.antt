mod Twins
mod Asked
mod Happenings
mod Loose
mod Fronts
pub mod TwoRuns
