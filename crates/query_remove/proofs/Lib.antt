pub mod Moving
pub mod Querying
pub mod Beginning
pub mod Given
