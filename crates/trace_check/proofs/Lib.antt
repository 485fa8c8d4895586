mod Telling
mod Fronts
mod Verdicts
mod Dues
mod Asking
pub mod FewIds
mod Turning
