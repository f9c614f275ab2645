pub mod Comparisons
pub mod KeysTell
pub mod Letters
pub mod Nesting
pub mod ValueViews
