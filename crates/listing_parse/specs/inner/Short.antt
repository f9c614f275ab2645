-- An instruction's line, read from its front to its end: what the contracts of private functions cite.
-- Page: docs/LISTING.md, "Lines and words", "What a word can be", "Labels"; "Dalvik Executable instruction formats",
-- "The formats".
use Rattle.std.specs.Prelude.{◌≡◌, ℕ, ℤ, ◌≤◌, ◌-◌, true, List, [], ◌∷◌, ◌++◌, length, map, replicate, Some}
use Rattle.std.specs.Str.Parse.{IsNumeral, digits_value}
use Rattle.dex_insn.specs.declared.opcode.Format.{Format}
use Rattle.dex_insn.specs.Opcodes.{format_of, index_kind_of}
use Rattle.dex_insn.specs.Mnemonics.{IsNamed}
use Rattle.program_types.specs.Content.{Insn}
use Rattle.listing_words.specs.Words.{Word, plain_word, after_spaces, up_to_space, TakesPlain, TakesWord, HasWords}
use Rattle.listing_slots.specs.declared.slot.Mark.{Mark}
use Rattle.listing_slots.specs.declared.slot.Slot.{Slot}
use Rattle.listing_slots.specs.Data.{Datum, byte}
use Rattle.listing_slots.specs.Slots.{SpellsNumber, SpellsInteger, has_form, have_forms}
use Rattle.listing_slots.specs.Shapes.{register4, plain_slots}
use Rattle.listing_lines.specs.Labels.{Label, SpellsHere, SpellsAll}
use Rattle.listing_lines.specs.Lines.{insn_of}
use Rattle.listing_lines.specs.Places.{is_insns}
use Rattle.listing_lines.specs.declared.form.Form.TheVariants.{Two}
use Rattle.listing_parse.specs.States.{stage_of}
use Rattle.listing_parse.specs.Text.{Reading}

-- ---- words at the front of a text

-- Decimal digits, up to a space or the end, that write a number up to the highest.
pub record TakesDigits (most : ℕ) (text : List ℕ) (n : ℕ) (rest : List ℕ) : Type 0 where
  pub digits : List ℕ
  pub joined : text ≡ digits ++ rest
  pub numeral : IsNumeral 10 digits
  pub value : n ≡ digits_value 10 digits
  pub small : n ≤ most
  pub ends : up_to_space rest ≡ []

-- A word that is a mark and a number up to the highest.
pub record TakesNumber (before : Mark) (most : ℕ) (text : List ℕ) (n : ℕ) (rest : List ℕ) : Type 0 where
  pub spelled_by : List ℕ
  pub taken : TakesPlain (after_spaces text) spelled_by rest
  pub number : SpellsNumber before most (plain_word spelled_by) n

-- The last word, a signed number of this range.
pub record EndsInInteger (most : ℕ) (text : List ℕ) (z : ℤ) : Type 0 where
  pub spelled_by : List ℕ
  pub taken : TakesPlain (after_spaces text) spelled_by []
  pub number : SpellsInteger most (plain_word spelled_by) z

-- A word of the slot's form, with its value there.
pub record TakesOperand (es : List Label) (s : Slot) (text : List ℕ) (d : Datum) (rest : List ℕ) : Type 0 where
  pub spelled_by : Word
  pub taken : TakesWord text spelled_by rest
  pub form : has_form s spelled_by ≡ true
  pub word_values : SpellsHere es s spelled_by d

-- A word for each slot, with its value there.
abbrev pub TakesEach : List Label → List Slot → List ℕ → List Datum → List ℕ → Type 0
TakesEach es [] text [] rest = text ≡ rest
TakesEach es (s ∷ ss) text (d ∷ ds) rest = (more : List ℕ) × TakesOperand es s text d more × TakesEach es ss more ds rest
TakesEach es _ text _ rest = ⊥

-- Registers of four bits, five at most; what isn't given of the five is 0.
pub record TakesRegisters (text : List ℕ) (regs : List ℕ) (n : ℕ) (rest : List ℕ) : Type 0 where
  pub given : List ℕ
  pub count : n ≡ length given
  pub most : length given ≤ 5
  pub padded : regs ≡ given ++ replicate (5 - length given) 0
  pub each : (es : List Label) → TakesEach es (replicate (length given) register4) text (map byte given) rest

-- ---- instructions

-- The words of the text are the operands of an opcode of this format, and the instruction has their values.
pub record InsnText (es : List Label) (f : Format) (op : ℕ) (text : List ℕ) (i : Insn) : Type 0 where
  pub words : List Word
  pub has_words : HasWords text words
  pub forms : have_forms (plain_slots (Some f) (index_kind_of op) words) words ≡ true
  pub word_values : List Datum
  pub spelled : SpellsAll es (plain_slots (Some f) (index_kind_of op) words) words word_values
  pub is : i ≡ insn_of (Some f) op word_values

-- In a listing of the second form, where an instruction is allowed, the line is the mnemonic and the operands of this one.
pub record IsShortLine (r : Reading) (line : List ℕ) (i : Insn) : Type 0 where
  pub second : r.form ≡ Two
  pub stands : is_insns (stage_of r.base.block) ≡ true
  pub mnemonic : List ℕ
  pub rest : List ℕ
  pub op : ℕ
  pub format : Format
  pub taken : TakesPlain (after_spaces line) mnemonic rest
  pub named : IsNamed op mnemonic
  pub has_format : format_of op ≡ Some format
  pub operands : InsnText r.labels format op rest i
