mod Feeds
mod Pieces
mod Going
mod Saying
mod Books
pub mod OneOutput
pub mod Nobody
pub mod Longer
pub mod AsksFirst
pub mod AreRuns
pub mod LivedStates
pub mod Ending
pub mod Pasts
