-- What no promise reaches: the contracts of inner functions, and proofs, name it.
pub mod ByAddress
pub mod FileCodes
pub mod HandlerViews
pub mod Handlers
pub mod InsnReading
pub mod ItemChecking
pub mod ItemReading
pub mod Visiting
pub mod Places
pub mod Plain
pub mod Symbols
pub mod Walk
