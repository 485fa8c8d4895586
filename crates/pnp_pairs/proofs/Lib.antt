mod Maps
mod Trees
mod Asks
mod Starts
mod Jobs
mod Rebalances
mod Removals
mod Tasks
mod Machine
mod Events
mod OneRun
pub mod Runs
pub mod Endings
mod Places
pub mod SameDrivers
pub mod OwnSets
pub mod Struck
mod Agreeing
mod Leading
mod Placing
mod Walking
mod Alone
mod Disabling
mod Enabling
mod ChosenStacks
mod PartSteps
mod PartOperations
mod PartEvents
mod Parts
mod HeldFits
mod DisabledAndEnabled
mod TwiceAsOnce
