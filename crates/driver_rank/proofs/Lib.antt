pub mod Firsts
pub mod Orders
pub mod Steps
pub mod Keys
pub mod Totals
pub mod Winners
