pub mod Notes
pub mod Ranking
