-- What no promise reaches: the contracts of inner functions, and proofs, name it.
pub mod Closure
pub mod Indices
pub mod Needed
pub mod Noted
pub mod Numbers
pub mod Rank
pub mod Rows
