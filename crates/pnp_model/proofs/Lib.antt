pub mod Keyed
pub mod Determined
pub mod Clips
pub mod Due
pub mod Guards
pub mod RowBase
pub mod RowsStarts
mod RowsChoices
pub mod RowsTroubles
pub mod RowsBooks
pub mod RowsRebalances
pub mod RowsRestarts
pub mod RowsRemovals
mod RowsRelations
mod RowsReturns
pub mod RowsBoard
pub mod RowsBuses
pub mod RowsWindows
mod RowsWindowsMore
pub mod RowsChanges
mod RowsChangesBeside
pub mod RowsChangesMore
pub mod RowsHandles
mod RowsHandlesMore
pub mod RowsBehind
pub mod RowsFinishes
mod RowsKept
mod RowsMixed
mod RowsMixedMore
mod RowsWideA
mod RowsWideB
mod RowsWideC
mod RowsWideD
mod RowsWideE
