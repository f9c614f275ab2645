pub mod AlignedFormed
pub mod MoveLaws
pub mod NameLaws
pub mod OneAligned
pub mod PadLaws
pub mod PairLaws
pub mod SameLaws
pub mod WellLaws
