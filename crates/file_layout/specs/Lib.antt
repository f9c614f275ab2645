pub mod Tiles
pub mod Sections
pub mod Parts
pub mod inner
