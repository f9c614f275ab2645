-- What no promise reaches: the contracts of inner functions, and proofs, name it.
pub mod Codes
pub mod Named
pub mod ReadingView
pub mod Reads
pub mod Runs
pub mod Short
pub mod States
pub mod Text
pub mod View
