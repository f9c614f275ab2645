-- What no promise reaches: the contracts of inner functions, and proofs, name it.
pub mod Listed
pub mod Once
pub mod Runs
