pub mod Aligned
pub mod Aligning
pub mod Programs
pub mod inner
