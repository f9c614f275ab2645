pub mod Operands
pub mod Printed
pub mod Canon
pub mod inner
