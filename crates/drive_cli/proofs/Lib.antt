mod Asking
mod Faults
mod Machines
mod Scripts
mod Outcomes
