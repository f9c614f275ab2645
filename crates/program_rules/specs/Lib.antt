pub mod Valid
pub mod Rules
pub mod Ranges
pub mod WellFormed
pub mod inner
