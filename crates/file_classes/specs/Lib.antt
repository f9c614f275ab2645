pub mod ClassRows
pub mod ClassData
pub mod Classes
pub mod ClassFaults
pub mod inner
