pub mod Nexts
pub mod Freeing
mod Tellers
mod Events
mod Steps
mod Names
