pub mod Fits
pub mod Packs
pub mod inner
