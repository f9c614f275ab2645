-- What no promise reaches: the contracts of inner functions, and proofs, name it.
pub mod Nested
pub mod Numbers
pub mod Parts
pub mod Valid
