mod Seeing
mod Infs
mod Reading
mod Outputs
