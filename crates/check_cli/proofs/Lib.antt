mod Faults
mod Saying
