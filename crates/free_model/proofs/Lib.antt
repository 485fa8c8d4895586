pub mod Lines
pub mod Racks
pub mod Alikes
pub mod Ways
mod WayOps
mod WayFrames
pub mod WaySteps
pub mod Quiets
pub mod OneVerdict
pub mod Happenings
pub mod TwinEvents
pub mod Outs
pub mod AskSteps
pub mod SameQueries
pub mod Armed
pub mod Answered
pub mod Converse
mod Computed
pub mod Refused
mod CheckBase
mod ChecksStarts
mod ChecksRemovals
mod ChecksMoves
mod ChecksHandles
mod ChecksWindows
