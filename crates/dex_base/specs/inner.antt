-- What no promise reaches: the contracts of inner functions, and proofs, name it.
pub mod Descriptor
pub mod Fault
pub mod Names
pub mod Sequence
