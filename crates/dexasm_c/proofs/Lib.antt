-- The lemmas of the calls.
pub mod CallLaws
