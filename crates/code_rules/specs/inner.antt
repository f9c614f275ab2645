-- What no promise reaches: the contracts of inner functions, and proofs, name it.
pub mod Branches
pub mod CodeRules
pub mod Parts
pub mod Uses
