-- What no promise reaches: the contracts of inner functions, and proofs, name it.
pub mod CarriedArrays
pub mod CarriedCodes
pub mod Fronts
pub mod InPlace
pub mod Indices
pub mod Marked
pub mod Numbers
pub mod Renumbered
pub mod Shapes
pub mod TryWalks
pub mod ValueWalks
