-- What no promise reaches: the contracts of inner functions, and proofs, name it.
pub mod Cached
pub mod ClassFaults
pub mod Places
pub mod Reading
