pub mod FewIds
pub mod Fronts
pub mod FrontEntries
pub mod Telling
pub mod PartsWritten
pub mod Sameness
pub mod Settling
pub mod SoFar
pub mod Going
pub mod Whole
pub mod Ended
pub mod OneOutput
pub mod Lawfulness
mod MachineAlone
mod OwnTraces
pub mod Refusals
pub mod WordRows
pub mod InfSteps
pub mod Limited
mod GoodLines
pub mod GeneratedInf
pub mod GeneratedLaws
pub mod MadeRuns
pub mod MadeLines
pub mod Counts
pub mod Counting
pub mod Sources
pub mod Racks
pub mod SomeVerdict
pub mod Checking
pub mod Checked
pub mod Answered
