pub use Rattle.dex_base.specs.Descriptor
pub use Rattle.dex_base.specs.Fault
pub use Rattle.dex_base.specs.FirstFault
pub use Rattle.dex_insn.specs.Opcodes
pub use Rattle.dex_insn.specs.RawInsns
pub use Rattle.dex_insn.specs.Written as DexInsnWritten
pub use Rattle.program_types.specs.Content
pub use Rattle.program_types.specs.Depth
pub use Rattle.program_types.specs.Equality
pub use Rattle.program_types.specs.Formed
pub use Rattle.program_types.specs.Hashing
pub use Rattle.program_types.specs.Key
pub use Rattle.program_types.specs.Kinds
pub use Rattle.program_types.specs.Mentions
pub use Rattle.program_types.specs.Operands
pub use Rattle.program_types.specs.Shorty
pub use Rattle.program_types.specs.View
pub use Rattle.program_types.specs.Written as ProgramTypesWritten
pub use Rattle.code_rules.specs.CodeRules
pub use Rattle.program_rules.specs.Ranges
pub use Rattle.program_rules.specs.Rules
pub use Rattle.program_rules.specs.Valid
pub use Rattle.program_rules.specs.WellFormed
