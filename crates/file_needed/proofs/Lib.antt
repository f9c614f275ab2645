pub mod Steps
pub mod ClassNames
