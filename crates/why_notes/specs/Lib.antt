pub mod Moving
pub mod Refusing
