pub mod Counting
mod Fitting
pub mod Events
pub mod Keeps
pub mod Asks
mod Choices
pub mod LinesIdle
pub mod LinesOperations
pub mod Lines
pub mod Endings
pub mod Words
pub mod Hears
pub mod World
pub mod Later
pub mod FinishOrder
pub mod Searches
pub mod TreeOrder
pub mod Written
pub mod StopOrder
pub mod Ranks
pub mod Alone
pub mod AtRest
pub mod Pended
pub mod Named
pub mod Relations
mod Cares
mod CaresIdle
mod CaresOperations
mod CaresRebalances
mod CaresRemovals
mod Skips
pub mod Excuses
pub mod Settled
