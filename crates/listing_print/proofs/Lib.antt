pub mod TextLaws
pub mod PrintedLaws
pub mod MadeLaws
pub mod RowLaws
pub mod InsnLaws
pub mod MarkLaws
