pub mod Lines
pub mod Places
pub mod Needs
pub mod Forms
pub mod Splitting
pub mod Labels
pub mod inner
