-- How a line is printed: its first words, and its operands.
-- Page: docs/LISTING.md, "The lines".
use Rattle.std.specs.Prelude.{ℕ, List, [], ◌∷◌, ◌++◌, Some, None}
use Rattle.std.specs.Fmt.{decimal}
use Rattle.dex_insn.specs.Mnemonics.{mnemonic_of}
use Rattle.program_types.specs.Content as content
use Rattle.program_types.specs.Content.{Descriptor, Proto, Insn, Member, Method, OfText, OfDesc}
use Rattle.listing_slots.specs.declared.key.Key.{Key}
use Rattle.listing_slots.specs.declared.key.Key.TheVariants as key
use Rattle.listing_slots.specs.declared.slot.Slot.TheVariants as slot
use Rattle.listing_slots.specs.Keys.{key_text}
use Rattle.listing_slots.specs.Data.{word, half, named, prototype}
use Rattle.listing_slots.specs.Shapes.{size}
use Rattle.listing_lines.specs.Lines.{Line, first_line, open_class, end_class, super_line, implements_line, source_line, static_line, instance_line, direct_line, virtual_line, open_code, end_code, insn_line, try_line, catch_line, catch_all_line}
use Rattle.listing_lines.specs.declared.form.Form.{Form}
use Rattle.listing_lines.specs.declared.form.Form.TheVariants.{One, Two}
use Rattle.listing_print.specs.Operands.{Operand, operand, keyword, to, label_name, operand_text, operand_text_in, insn_operands, value_operands}

-- The opcode of an instruction; a payload has the word of its kind in place of a mnemonic.
abbrev pub insn_word : Insn → List ℕ
insn_word (content.I10x op) = mnemonic_of op
insn_word (content.I12x op a b) = mnemonic_of op
insn_word (content.I11n op a b) = mnemonic_of op
insn_word (content.I11x op a) = mnemonic_of op
insn_word (content.I10t op k) = mnemonic_of op
insn_word (content.I20t op k) = mnemonic_of op
insn_word (content.I30t op k) = mnemonic_of op
insn_word (content.I22x op a b) = mnemonic_of op
insn_word (content.I21t op a k) = mnemonic_of op
insn_word (content.I31t op a k) = mnemonic_of op
insn_word (content.I21s op a b) = mnemonic_of op
insn_word (content.I21h op a b) = mnemonic_of op
insn_word (content.I21c op a which) = mnemonic_of op
insn_word (content.I31c op a which) = mnemonic_of op
insn_word (content.I23x op a b c) = mnemonic_of op
insn_word (content.I22b op a b c) = mnemonic_of op
insn_word (content.I22t op a b k) = mnemonic_of op
insn_word (content.I22s op a b c) = mnemonic_of op
insn_word (content.I22c op a b which) = mnemonic_of op
insn_word (content.I32x op a b) = mnemonic_of op
insn_word (content.I31i op a b) = mnemonic_of op
insn_word (content.I51l op a b) = mnemonic_of op
insn_word (content.I35c op n regs which) = mnemonic_of op
insn_word (content.I3rc op n first which) = mnemonic_of op
insn_word (content.Packed first targets) = key_text key.Packed
insn_word (content.Sparse keys targets) = key_text key.Sparse
insn_word (content.Data width bytes) = key_text key.Elements

-- A member: its name, its type or prototype, and its flags.
abbrev pub member_operands : Member → List Operand
member_operands m = operand slot.Member (named (OfText m.name)) ∷ operand slot.Desc (named (OfDesc m.ty)) ∷ operand slot.Flags (word m.flags) ∷ []

-- A method: its name, its prototype, its flags.
abbrev pub method_operands : Method → List Operand
method_operands m = operand slot.Member (named (OfText m.name)) ∷ operand slot.Proto (prototype m.proto) ∷ operand slot.Flags (word m.flags) ∷ []

-- A type.
abbrev pub type_operand : Descriptor → Operand
type_operand d = operand slot.Desc (named (OfDesc d))

-- The keyword of a line that is no instruction, and its operands.
abbrev pub line_key : Line → Key
line_key first_line = key.Dex
line_key (open_class d f) = key.Class
line_key end_class = key.End
line_key (super_line d) = key.Super
line_key (implements_line d) = key.Implements
line_key (source_line us) = key.Source
line_key (static_line m v) = key.Static
line_key (instance_line m) = key.Instance
line_key (direct_line m) = key.Direct
line_key (virtual_line m) = key.Virtual
line_key (open_code r i o) = key.Code
line_key end_code = key.End
line_key (insn_line i) = key.Code
line_key (try_line f t) = key.Try
line_key (catch_line d k) = key.Catch
line_key (catch_all_line k) = key.CatchAll

-- The operands after a line's keyword.
abbrev pub line_operands : Line → List Operand
line_operands first_line = keyword key.Version ∷ []
line_operands (open_class d f) = type_operand d ∷ operand slot.Flags (word f) ∷ []
line_operands end_class = keyword key.Class ∷ []
line_operands (super_line d) = type_operand d ∷ []
line_operands (implements_line d) = type_operand d ∷ []
line_operands (source_line us) = operand slot.Text (named (OfText us)) ∷ []
line_operands (static_line m None) = member_operands m
line_operands (static_line m (Some v)) = member_operands m ++ (keyword key.Equals ∷ value_operands v)
line_operands (instance_line m) = member_operands m
line_operands (direct_line m) = method_operands m
line_operands (virtual_line m) = method_operands m
line_operands (open_code r i o) = operand size (half r) ∷ operand size (half i) ∷ operand size (half o) ∷ []
line_operands end_code = keyword key.Code ∷ []
line_operands (insn_line i) = insn_operands i
line_operands (try_line f t) = to f ∷ to t ∷ []
line_operands (catch_line d k) = type_operand d ∷ to k ∷ []
line_operands (catch_all_line k) = to k ∷ []

-- A line after a keyword, and its line feed.
abbrev pub keyed_text : Line → List ℕ
keyed_text line = key_text (line_key line) ++ (operand_text (line_operands line) ++ 10 ∷ [])

-- A line with targets after a keyword, in a form, and its line feed.
abbrev pub keyed_text_in : Form → Line → List ℕ
keyed_text_in form line = key_text (line_key line) ++ (operand_text_in form (line_operands line) ++ 10 ∷ [])

-- After the number that instruction k gives itself, which is in the first form alone.
abbrev pub with_number : Form → ℕ → List ℕ → List ℕ
with_number One k text = decimal k ++ (58 ∷ 32 ∷ text)
with_number Two k text = text

-- Instruction k, and its line feed.
abbrev pub insn_text : Form → ℕ → Insn → List ℕ
insn_text form k i = with_number form k (insn_word i ++ (operand_text_in form (insn_operands i) ++ 10 ∷ []))

-- The line of instruction k's label.
abbrev pub label_text : ℕ → List ℕ
label_text k = label_name k ++ 10 ∷ []
