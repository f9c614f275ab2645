pub mod State
pub mod Steps
pub mod Safe
pub mod FileKinds
pub mod inner
