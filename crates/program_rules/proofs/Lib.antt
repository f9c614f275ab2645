pub mod AllLaws
mod ClassFacts
pub mod FormedLaws
pub mod MemberLaws
mod NameFacts
pub mod NestedLaws
pub mod NumberLaws
pub mod OneRule
pub mod OrderLaws
mod PartRanges
mod ValueFacts
pub mod WalkLaws
