-- What no promise reaches: the contracts of inner functions, and proofs, name it.
pub mod Leaves
pub mod Marks
pub mod Reading
