-- What no promise reaches: the contracts of inner functions, and proofs, name it.
pub mod LineView
pub mod Lines
pub mod MakingView
pub mod NeedView
pub mod Labels
pub mod Order
pub mod View
