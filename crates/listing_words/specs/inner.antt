-- What no promise reaches: the contracts of inner functions, and proofs, name it.
pub mod Names
pub mod Plain
pub mod Runs
pub mod Taking
pub mod Texts
pub mod View
pub mod Words
