-- What no promise reaches: the contracts of inner functions, and proofs, name it.
pub mod Entries
pub mod Finished
pub mod Hashing
pub mod Header
pub mod Laws
pub mod Once
pub mod OneMore
pub mod Parts
pub mod Plan
pub mod Sections
pub mod Sharing
pub mod Spans
pub mod Tiles
