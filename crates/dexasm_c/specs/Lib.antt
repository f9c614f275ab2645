pub mod Calls
pub mod Status
pub mod inner
