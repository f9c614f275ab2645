-- What no promise reaches: the contracts of inner functions, and proofs, name it.
pub mod Carried
pub mod Running
pub mod Reported
