pub mod Least
pub mod Packed
pub mod Written
pub use Rattle.file_put.specs.Data
pub use Rattle.file_strip.specs.AtLeast
