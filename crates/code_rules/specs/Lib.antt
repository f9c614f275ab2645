pub mod First
pub mod Branches
pub mod CodeRules
pub mod inner
