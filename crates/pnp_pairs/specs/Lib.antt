pub mod DisabledAndEnabled
pub mod OwnSets
pub mod Parts
pub mod Renamed
pub mod Renaming
pub mod SameDrivers
pub mod Struck
