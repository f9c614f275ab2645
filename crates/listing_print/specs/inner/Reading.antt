-- What is read of a printed line.
use Rattle.std.specs.Prelude.{◌≡◌, ℕ, ◌-◌, ◌≤◌, List, length, drop, replicate, map, Some, None}
use Rattle.std.specs.List.{AllByRecursion}
use Rattle.dex_insn.specs.declared.opcode.Format.TheVariants as format
use Rattle.dex_insn.specs.Opcodes.{format_of, index_kind_of}
use Rattle.program_types.specs.Content as content
use Rattle.program_types.specs.Content.{Insn, Name}
use Rattle.listing_slots.specs.Shapes.{name_slot}
use Rattle.listing_words.specs.Words.{Word}
use Rattle.listing_slots.specs.declared.kind.Kind.{Kind}
use Rattle.listing_slots.specs.declared.kind.Kind.TheVariants as kind
use Rattle.listing_slots.specs.declared.slot.Slot.{Slot}
use Rattle.listing_slots.specs.Data.{Datum}
use Rattle.listing_slots.specs.inner.Shown.{FitsSlot}
use Rattle.listing_lines.specs.Lines.{Line, first_line, open_class, end_class, super_line, implements_line, source_line, static_line, instance_line, direct_line, virtual_line, open_code, end_code, insn_line, try_line, catch_line, catch_all_line}
use Rattle.listing_lines.specs.declared.form.Form.{Form}
use Rattle.listing_print.specs.Operands.{Operand, name_operand, shown_in}

-- The slots of operands, their values, and their words.
abbrev pub slots_of : List Operand → List Slot
slots_of os = map (λ (o : Operand). o.slot) os

-- The values of operands.
abbrev pub data_of : List Operand → List Datum
data_of os = map (λ (o : Operand). o.value) os

-- The words of operands in a form, by which targets are written.
abbrev pub words_in : Form → List Operand → List Word
words_in form os = map (λ (o : Operand). shown_in form o.slot o.value) os

-- Each can be printed in its slot.
abbrev pub FitOperands : List Operand → Type 0
FitOperands os = AllByRecursion (λ (o : Operand). FitsSlot o.slot o.value) os

-- What a line is that begins with a keyword.
abbrev pub line_kind : Line → Kind
line_kind first_line = kind.First
line_kind (open_class d f) = kind.OpenClass
line_kind end_class = kind.EndClass
line_kind (super_line d) = kind.Super
line_kind (implements_line d) = kind.Implements
line_kind (source_line us) = kind.Source
line_kind (static_line m None) = kind.Static
line_kind (static_line m (Some v)) = kind.Given
line_kind (instance_line m) = kind.Instance
line_kind (direct_line m) = kind.Direct
line_kind (virtual_line m) = kind.Virtual
line_kind (open_code r i o) = kind.OpenCode
line_kind end_code = kind.EndCode
line_kind (insn_line i) = kind.First
line_kind (try_line f t) = kind.Try
line_kind (catch_line d k) = kind.Catch
line_kind (catch_all_line k) = kind.CatchAll

-- A line begins with a keyword; a method's line has no code.
abbrev pub IsKeyedLine : Line → Type 0
IsKeyedLine (insn_line i) = ⊥
IsKeyedLine (direct_line m) = m.code ≡ None
IsKeyedLine (virtual_line m) = m.code ≡ None
IsKeyedLine _ = Unit {0}

-- What an instruction's line is.
abbrev pub insn_kind : Insn → Kind
insn_kind (content.I10x op) = kind.Plain op
insn_kind (content.I12x op a b) = kind.Plain op
insn_kind (content.I11n op a b) = kind.Plain op
insn_kind (content.I11x op a) = kind.Plain op
insn_kind (content.I10t op k) = kind.Plain op
insn_kind (content.I20t op k) = kind.Plain op
insn_kind (content.I30t op k) = kind.Plain op
insn_kind (content.I22x op a b) = kind.Plain op
insn_kind (content.I21t op a k) = kind.Plain op
insn_kind (content.I31t op a k) = kind.Plain op
insn_kind (content.I21s op a b) = kind.Plain op
insn_kind (content.I21h op a b) = kind.Plain op
insn_kind (content.I21c op a which) = kind.Plain op
insn_kind (content.I31c op a which) = kind.Plain op
insn_kind (content.I23x op a b c) = kind.Plain op
insn_kind (content.I22b op a b c) = kind.Plain op
insn_kind (content.I22t op a b k) = kind.Plain op
insn_kind (content.I22s op a b c) = kind.Plain op
insn_kind (content.I22c op a b which) = kind.Plain op
insn_kind (content.I32x op a b) = kind.Plain op
insn_kind (content.I31i op a b) = kind.Plain op
insn_kind (content.I51l op a b) = kind.Plain op
insn_kind (content.I35c op n regs which) = kind.Plain op
insn_kind (content.I3rc op n first which) = kind.Plain op
insn_kind (content.Packed first targets) = kind.Packed
insn_kind (content.Sparse keys targets) = kind.Sparse
insn_kind (content.Data width bytes) = kind.Elements

-- The name is of the kind that the opcode names.
abbrev pub IsNameOfOpcode : ℕ → Name → Type 0
IsNameOfOpcode op which = (name_operand which).slot ≡ name_slot (index_kind_of op)

-- The opcode is one of its format, and what it names is of its kind; at most five registers are used in braces, and the others
-- are 0; as many keys as targets.
abbrev pub OpcodeFits : Insn → Type 0
OpcodeFits (content.I10x op) = format_of op ≡ Some format.F10x
OpcodeFits (content.I12x op a b) = format_of op ≡ Some format.F12x
OpcodeFits (content.I11n op a b) = format_of op ≡ Some format.F11n
OpcodeFits (content.I11x op a) = format_of op ≡ Some format.F11x
OpcodeFits (content.I10t op k) = format_of op ≡ Some format.F10t
OpcodeFits (content.I20t op k) = format_of op ≡ Some format.F20t
OpcodeFits (content.I30t op k) = format_of op ≡ Some format.F30t
OpcodeFits (content.I22x op a b) = format_of op ≡ Some format.F22x
OpcodeFits (content.I21t op a k) = format_of op ≡ Some format.F21t
OpcodeFits (content.I31t op a k) = format_of op ≡ Some format.F31t
OpcodeFits (content.I21s op a b) = format_of op ≡ Some format.F21s
OpcodeFits (content.I21h op a b) = format_of op ≡ Some format.F21h
OpcodeFits (content.I21c op a which) = (format_of op ≡ Some format.F21c) × IsNameOfOpcode op which
OpcodeFits (content.I31c op a which) = (format_of op ≡ Some format.F31c) × IsNameOfOpcode op which
OpcodeFits (content.I23x op a b c) = format_of op ≡ Some format.F23x
OpcodeFits (content.I22b op a b c) = format_of op ≡ Some format.F22b
OpcodeFits (content.I22t op a b k) = format_of op ≡ Some format.F22t
OpcodeFits (content.I22s op a b c) = format_of op ≡ Some format.F22s
OpcodeFits (content.I22c op a b which) = (format_of op ≡ Some format.F22c) × IsNameOfOpcode op which
OpcodeFits (content.I32x op a b) = format_of op ≡ Some format.F32x
OpcodeFits (content.I31i op a b) = format_of op ≡ Some format.F31i
OpcodeFits (content.I51l op a b) = format_of op ≡ Some format.F51l
OpcodeFits (content.I35c op n regs which) = (format_of op ≡ Some format.F35c) × IsNameOfOpcode op which × (n ≤ 5) × (length regs ≡ 5) × (drop n regs ≡ replicate (5 - n) 0)
OpcodeFits (content.I3rc op n first which) = (format_of op ≡ Some format.F3rc) × IsNameOfOpcode op which
OpcodeFits (content.Packed first targets) = Unit {0}
OpcodeFits (content.Sparse keys targets) = length keys ≡ length targets
OpcodeFits (content.Data width bytes) = Unit {0}
