mod Spotting
mod Walking
