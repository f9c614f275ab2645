-- What no promise reaches: the contracts of inner functions, and proofs, name it.
pub mod Cached
pub mod Halves
pub mod Known
pub mod Reading
pub mod RowFields
pub mod TableFaults
