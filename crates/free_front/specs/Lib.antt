pub mod FreeFronts
pub mod Laws
pub mod Racks
pub mod ToldRacks
