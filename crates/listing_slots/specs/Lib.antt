pub mod Keys
pub mod Data
pub mod Slots
pub mod Shown
pub mod Shapes
pub mod inner
