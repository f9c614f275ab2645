pub mod Among
pub mod Stepping
pub mod Sound
pub mod Calling
