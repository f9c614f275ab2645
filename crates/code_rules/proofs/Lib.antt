pub mod RiseLaws
pub mod TryLaws
pub mod OperandLaws
pub mod UseLaws
pub mod RunLaws
pub mod OriginLaws
