-- What no promise reaches: the contracts of inner functions, and proofs, name it.
pub mod Arrays
pub mod Assembled
pub mod AtIndex
pub mod ClassDefs
pub mod Codes
pub mod Data
pub mod Growing
pub mod Held
pub mod Lists
pub mod Making
pub mod Named
pub mod Once
pub mod Placing
pub mod Rows
