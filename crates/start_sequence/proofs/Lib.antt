pub mod Numbers
pub mod Completing
pub mod Acting
pub mod Choosing
pub mod Mirroring
pub mod Finding
