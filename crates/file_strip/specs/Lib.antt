pub mod AtLeast
pub mod inner
