pub mod Rows
mod RowsWritten
pub mod Again
pub mod Put
pub mod Lists
pub mod Walks
pub mod Within
