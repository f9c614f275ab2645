pub mod Names
pub mod RowFields
pub mod Sorted
pub mod Stands
pub mod TableFaults
pub mod inner
