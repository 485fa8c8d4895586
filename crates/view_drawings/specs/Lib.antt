pub mod Rows
pub mod Uses
pub mod Holdings
