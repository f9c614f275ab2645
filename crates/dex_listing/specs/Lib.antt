pub use Rattle.dex_base.specs.Descriptor
pub use Rattle.dex_base.specs.Fault
pub use Rattle.dex_base.specs.FirstFault
pub use Rattle.dex_insn.specs.Mnemonics
pub use Rattle.dex_insn.specs.Opcodes
pub use Rattle.dex_insn.specs.RawInsns
pub use Rattle.dex_insn.specs.Written as DexInsnWritten
pub use Rattle.program_types.specs.Content
pub use Rattle.program_types.specs.Depth
pub use Rattle.program_types.specs.Formed
pub use Rattle.program_types.specs.Key
pub use Rattle.program_types.specs.Kinds
pub use Rattle.program_types.specs.Mentions
pub use Rattle.program_types.specs.Operands as ProgramTypesOperands
pub use Rattle.program_types.specs.View
pub use Rattle.program_types.specs.Written as ProgramTypesWritten
pub use Rattle.code_rules.specs.CodeRules
pub use Rattle.program_rules.specs.Ranges
pub use Rattle.program_rules.specs.Rules
pub use Rattle.program_rules.specs.Valid
pub use Rattle.program_rules.specs.WellFormed
pub use Rattle.listing_words.specs.Names
pub use Rattle.listing_words.specs.Numbers
pub use Rattle.listing_words.specs.Taking
pub use Rattle.listing_words.specs.Texts as ListingWordsTexts
pub use Rattle.listing_words.specs.Words
pub use Rattle.listing_words.specs.Written as ListingWordsWritten
pub use Rattle.listing_slots.specs.Data
pub use Rattle.listing_slots.specs.Keys
pub use Rattle.listing_slots.specs.Shapes
pub use Rattle.listing_slots.specs.Shown
pub use Rattle.listing_slots.specs.Slots
pub use Rattle.listing_lines.specs.Forms as ListingLinesForms
pub use Rattle.listing_lines.specs.Labels
pub use Rattle.listing_lines.specs.Lines
pub use Rattle.listing_lines.specs.Needs
pub use Rattle.listing_lines.specs.Places
pub use Rattle.listing_lines.specs.Splitting
pub use Rattle.listing_parse.specs.Classes
pub use Rattle.listing_parse.specs.Codes
pub use Rattle.listing_parse.specs.Forms as ListingParseForms
pub use Rattle.listing_parse.specs.Members
pub use Rattle.listing_parse.specs.States
pub use Rattle.listing_parse.specs.Text
pub use Rattle.listing_parse.specs.Texts as ListingParseTexts
pub use Rattle.listing_parse.specs.Zeros
pub use Rattle.listing_print.specs.Canon
pub use Rattle.listing_print.specs.Operands as ListingPrintOperands
pub use Rattle.listing_print.specs.Printed
