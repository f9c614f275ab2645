pub mod Wide
pub mod Limits
pub mod inner
