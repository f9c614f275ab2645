-- What no promise reaches: the contracts of inner functions, and proofs, name it.
pub mod Laws
pub mod Limits
pub mod Lowest
pub mod Sum
pub mod Wide
