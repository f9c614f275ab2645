-- What no promise reaches: the contracts of inner functions, and proofs, name it.
pub mod ShapeView
pub mod Shapes
pub mod Shown
pub mod Slots
pub mod Spelled
pub mod ValidNames
pub mod View
