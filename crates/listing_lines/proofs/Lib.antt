pub mod LineLaws
pub mod MakingLaws
pub mod SplitLaws
pub mod AheadLaws
pub mod SpellLaws
pub mod LookLaws
pub mod OrderLaws
