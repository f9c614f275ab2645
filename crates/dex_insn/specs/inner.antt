-- What no promise reaches: the contracts of inner functions, and proofs, name it.
pub mod Flaws
pub mod Mnemonics
pub mod Named
