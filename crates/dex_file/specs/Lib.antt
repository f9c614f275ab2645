pub use Rattle.dex_base.specs.Adler32
pub use Rattle.dex_base.specs.Descriptor
pub use Rattle.dex_base.specs.Fault
pub use Rattle.dex_base.specs.Fields as DexBaseFields
pub use Rattle.dex_base.specs.FirstFault
pub use Rattle.dex_base.specs.Grammar
pub use Rattle.dex_base.specs.Leb128
pub use Rattle.dex_base.specs.Mutf8
pub use Rattle.dex_base.specs.Via
pub use Rattle.dex_base.specs.Words
pub use Rattle.dex_insn.specs.Fields as DexInsnFields
pub use Rattle.dex_insn.specs.Flaws
pub use Rattle.dex_insn.specs.Opcodes
pub use Rattle.dex_insn.specs.Raw
pub use Rattle.dex_insn.specs.RawInsns
pub use Rattle.dex_insn.specs.Written as DexInsnWritten
pub use Rattle.dex_container.specs.Faults as DexContainerFaults
pub use Rattle.dex_container.specs.Frame
pub use Rattle.dex_container.specs.Layout
pub use Rattle.dex_container.specs.Section
pub use Rattle.dex_container.specs.Where
pub use Rattle.program_types.specs.Content
pub use Rattle.program_types.specs.Depth
pub use Rattle.program_types.specs.Formed
pub use Rattle.program_types.specs.Key
pub use Rattle.program_types.specs.Kinds
pub use Rattle.program_types.specs.Mentions
pub use Rattle.program_types.specs.Operands
pub use Rattle.program_types.specs.Shorty
pub use Rattle.program_types.specs.Sizes
pub use Rattle.program_types.specs.View
pub use Rattle.code_rules.specs.Branches
pub use Rattle.code_rules.specs.CodeRules
pub use Rattle.code_rules.specs.First
pub use Rattle.program_rules.specs.Ranges
pub use Rattle.program_rules.specs.Rules
pub use Rattle.program_rules.specs.Valid
pub use Rattle.program_rules.specs.WellFormed
pub use Rattle.tables_names.specs.Closure
pub use Rattle.tables_names.specs.Needed
pub use Rattle.tables_names.specs.Rank
pub use Rattle.tables_names.specs.Rows
pub use Rattle.tables_rows.specs.Names
pub use Rattle.tables_rows.specs.RowFields
pub use Rattle.tables_rows.specs.Sorted
pub use Rattle.tables_rows.specs.Stands
pub use Rattle.tables_rows.specs.TableFaults
pub use Rattle.dex_value.specs.Faults as DexValueFaults
pub use Rattle.dex_value.specs.Spelling
pub use Rattle.dex_value.specs.Standing
pub use Rattle.dex_value.specs.Wide as DexValueWide
pub use Rattle.code_read.specs.Code
pub use Rattle.code_read.specs.Faults as CodeReadFaults
pub use Rattle.code_read.specs.Handlers
pub use Rattle.code_read.specs.InsnFaults
pub use Rattle.code_read.specs.Item
pub use Rattle.code_read.specs.Linked
pub use Rattle.code_read.specs.Places
pub use Rattle.code_read.specs.Registers
pub use Rattle.code_read.specs.Symbols
pub use Rattle.code_read.specs.Tries
pub use Rattle.code_read.specs.Walk
pub use Rattle.code_write.specs.Fits
pub use Rattle.code_write.specs.Packs
pub use Rattle.code_align.specs.Aligned
pub use Rattle.code_align.specs.Aligning
pub use Rattle.code_align.specs.Programs
pub use Rattle.file_classes.specs.ClassData
pub use Rattle.file_classes.specs.ClassFaults
pub use Rattle.file_classes.specs.ClassRows
pub use Rattle.file_classes.specs.Classes
pub use Rattle.file_layout.specs.Parts
pub use Rattle.file_layout.specs.Sections
pub use Rattle.file_layout.specs.Tiles
pub use Rattle.file_limits.specs.Limits
pub use Rattle.file_limits.specs.Wide as FileLimitsWide
pub use Rattle.file_write.specs.Data
pub use Rattle.file_read.specs.Means
pub use Rattle.file_read.specs.Refused
pub use Rattle.file_write.specs.AtLeast
pub use Rattle.file_write.specs.Least
pub use Rattle.file_write.specs.Packed
pub use Rattle.file_write.specs.Written as FileWriteWritten
