mod Telling
mod Fronts
mod Endings
mod Verdicts
mod Dues
mod Asking
mod Turning
pub mod OneVerdict
mod Outs
pub mod Clientless
mod Ahead
