-- What no promise reaches: the contracts of inner functions, and proofs, name it.
pub mod Fits
pub mod Laws
pub mod Packs
pub mod Writing
