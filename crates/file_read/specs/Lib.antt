pub mod Means
pub mod Refused
pub mod inner
