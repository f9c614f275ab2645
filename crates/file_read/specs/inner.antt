-- What no promise reaches: the contracts of inner functions, and proofs, name it.
pub mod Broken
pub mod ByClass
pub mod FileDeciding
pub mod Groups
