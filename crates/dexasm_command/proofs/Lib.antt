pub mod Putting
pub mod Handing
pub mod OnFile
pub mod Brought
pub mod Misusing
mod StatusLaws
