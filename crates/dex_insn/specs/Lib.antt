pub mod Fields
pub mod Opcodes
pub mod Mnemonics
pub mod Raw
pub mod RawInsns
pub mod Registers
pub mod Flaws
pub mod Written
pub mod inner
pub use Rattle.dex_base.specs.Fault
pub use Rattle.dex_base.specs.Fields as DexBaseFields
pub use Rattle.dex_base.specs.FirstFault
