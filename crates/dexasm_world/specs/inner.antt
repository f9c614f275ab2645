-- What no promise reaches: the contracts of inner functions, and proofs, name it.
pub mod FileKinds
pub mod Parts
pub mod Possible
pub mod State
pub mod Steps
