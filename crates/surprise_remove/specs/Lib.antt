pub mod Stages
pub mod Steps
pub mod Parts
pub mod FinishStages
pub mod FinishSteps
pub mod Ready
pub mod Requests
