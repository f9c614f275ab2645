-- What no promise reaches: the contracts of inner functions, and proofs, name it.
pub mod AtLeast
pub mod Bodies
pub mod ClassRow
pub mod Keeping
pub mod Lists
pub mod Members
pub mod Moved
pub mod Names
pub mod Ready
pub mod Sites
pub mod Sizes
pub mod Statics
pub mod Survey
pub mod Tables
pub mod Texts
pub mod Words
