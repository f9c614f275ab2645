-- Operands: the words of a line after its first words, each in its slot.
-- Page: docs/LISTING.md, "The lines", "Values".
use Rattle.std.specs.Prelude.{ℕ, ℤ, Bool, true, false, List, [], ◌∷◌, ◌++◌, take, map}
use Rattle.std.specs.List.{flat_map}
use Rattle.program_types.specs.Content as content
use Rattle.program_types.specs.Content.{Name, OfText, OfDesc, OfField, OfMethod, Value, Values, no_values, more_values, Insn}
use Rattle.std.specs.Fmt.{decimal}
use Rattle.listing_words.specs.Words.{Word, plain_word, word_bytes}
use Rattle.listing_slots.specs.declared.key.Key.{Key}
use Rattle.listing_slots.specs.declared.key.Key.TheVariants as key
use Rattle.listing_slots.specs.declared.slot.Mark.TheVariants.{Nothing, Target}
use Rattle.listing_slots.specs.declared.slot.Slot.{Slot}
use Rattle.listing_slots.specs.declared.slot.Slot.TheVariants as slot
use Rattle.listing_slots.specs.Data.{Datum, byte, half, word, wide, tiny, short, int, long, elements, named, constant, key_word}
use Rattle.listing_slots.specs.Shown.{shown}
use Rattle.listing_lines.specs.declared.form.Form.{Form}
use Rattle.listing_lines.specs.declared.form.Form.TheVariants.{One, Two}
use Rattle.listing_slots.specs.Shapes.{register4, register8, register16, target, size}

-- A slot, and the value of its word.
pub record Operand : Type 0 where
  pub slot : Slot
  pub value : Datum

-- The name of instruction k's label.
abbrev pub label_name : ℕ → List ℕ
label_name k = 58 ∷ 76 ∷ decimal k

-- A target: `@k`, or the label `:Lk`.
abbrev pub target_word : Form → ℕ → Word
target_word One k = plain_word (64 ∷ decimal k)
target_word Two k = plain_word (label_name k)

-- A datum as it is printed in its slot: targets by the form, all else in one way.
abbrev pub shown_in : Form → Slot → Datum → Word
shown_in form (slot.Word Target most) (word n) = target_word form n
shown_in form s d = shown s d

-- The words of operands, each after one space.
abbrev pub operand_text : List Operand → List ℕ
operand_text os = flat_map (λ o. 32 ∷ word_bytes (shown o.slot o.value)) os

-- The words of operands with targets, in a form, each after one space.
abbrev pub operand_text_in : Form → List Operand → List ℕ
operand_text_in form os = flat_map (λ o. 32 ∷ word_bytes (shown_in form o.slot o.value)) os

-- The value of a slot.
abbrev pub operand : Slot → Datum → Operand
operand s d = record { slot = s; value = d }

-- A keyword.
abbrev pub keyword : Key → Operand
keyword k = operand (slot.Key k) (key_word k)

-- A register of four bits.
abbrev pub v4 : ℕ → Operand
v4 n = operand register4 (byte n)

-- A register of eight bits.
abbrev pub v8 : ℕ → Operand
v8 n = operand register8 (byte n)

-- A register of sixteen bits.
abbrev pub v16 : ℕ → Operand
v16 n = operand register16 (half n)

-- A target.
abbrev pub to : ℕ → Operand
to n = operand target (word n)

-- A name, in the slot of its kind.
abbrev pub name_operand : Name → Operand
name_operand (OfText us) = operand slot.Text (named (OfText us))
name_operand (OfDesc d) = operand slot.Desc (named (OfDesc d))
name_operand (OfField f) = operand slot.Field (named (OfField f))
name_operand (OfMethod m) = operand slot.Method (named (OfMethod m))

-- A key and a target for each.
abbrev pub pair_operands : List ℤ → List ℕ → List Operand
pair_operands (k ∷ ks) (t ∷ ts) = operand slot.Int (int k) ∷ to t ∷ pair_operands ks ts
pair_operands _ _ = []

-- The bytes of an array; no word where there is none.
abbrev pub element_operands : List ℕ → List Operand
element_operands [] = []
element_operands (b ∷ bs) = operand slot.Elements (elements (b ∷ bs)) ∷ []

-- The operands of an instruction, in the order of its format.
abbrev pub insn_operands : Insn → List Operand
insn_operands (content.I10x op) = []
insn_operands (content.I12x op a b) = v4 a ∷ v4 b ∷ []
insn_operands (content.I11n op a b) = v4 a ∷ operand slot.Nibble (tiny b) ∷ []
insn_operands (content.I11x op a) = v8 a ∷ []
insn_operands (content.I10t op k) = to k ∷ []
insn_operands (content.I20t op k) = to k ∷ []
insn_operands (content.I30t op k) = to k ∷ []
insn_operands (content.I22x op a b) = v8 a ∷ v16 b ∷ []
insn_operands (content.I21t op a k) = v8 a ∷ to k ∷ []
insn_operands (content.I31t op a k) = v8 a ∷ to k ∷ []
insn_operands (content.I21s op a b) = v8 a ∷ operand slot.Short (short b) ∷ []
insn_operands (content.I21h op a b) = v8 a ∷ operand slot.Short (short b) ∷ []
insn_operands (content.I21c op a which) = v8 a ∷ name_operand which ∷ []
insn_operands (content.I31c op a which) = v8 a ∷ name_operand which ∷ []
insn_operands (content.I23x op a b c) = v8 a ∷ v8 b ∷ v8 c ∷ []
insn_operands (content.I22b op a b c) = v8 a ∷ v8 b ∷ operand slot.Tiny (tiny c) ∷ []
insn_operands (content.I22t op a b k) = v4 a ∷ v4 b ∷ to k ∷ []
insn_operands (content.I22s op a b c) = v4 a ∷ v4 b ∷ operand slot.Short (short c) ∷ []
insn_operands (content.I22c op a b which) = v4 a ∷ v4 b ∷ name_operand which ∷ []
insn_operands (content.I32x op a b) = v16 a ∷ v16 b ∷ []
insn_operands (content.I31i op a b) = v8 a ∷ operand slot.Int (int b) ∷ []
insn_operands (content.I51l op a b) = v8 a ∷ operand slot.Long (long b) ∷ []
-- of the five registers, those that are used
insn_operands (content.I35c op n regs which) = keyword key.Open ∷ (map v4 (take n regs) ++ (keyword key.Close ∷ name_operand which ∷ []))
insn_operands (content.I3rc op n first which) = v16 first ∷ operand (slot.Byte Nothing 255) (byte n) ∷ name_operand which ∷ []
insn_operands (content.Packed first targets) = operand slot.Int (int first) ∷ map to targets
insn_operands (content.Sparse keys targets) = pair_operands keys targets
insn_operands (content.Data width bytes) = operand size (half width) ∷ element_operands bytes

-- The keyword of a named value, and the name.
abbrev pub named_operands : Name → List Operand
named_operands (OfText us) = keyword key.Text ∷ name_operand (OfText us) ∷ []
named_operands (OfDesc d) = keyword key.Desc ∷ name_operand (OfDesc d) ∷ []
named_operands (OfField f) = keyword key.Field ∷ name_operand (OfField f) ∷ []
named_operands (OfMethod m) = keyword key.Method ∷ name_operand (OfMethod m) ∷ []

-- The keyword of a Boolean value.
abbrev pub truth_key : Bool → Key
truth_key true = key.True
truth_key false = key.False

-- A value: its keyword, and its operand; an array's values are between braces.
abbrev mutual
  pub value_operands : Value → List Operand
  value_operands (content.Byte z) = keyword key.Byte ∷ operand slot.Tiny (tiny z) ∷ []
  value_operands (content.Short z) = keyword key.Short ∷ operand slot.Short (short z) ∷ []
  value_operands (content.Char n) = keyword key.Char ∷ operand (slot.Half Nothing 65535) (half n) ∷ []
  value_operands (content.Int z) = keyword key.Int ∷ operand slot.Int (int z) ∷ []
  value_operands (content.Long z) = keyword key.Long ∷ operand slot.Long (long z) ∷ []
  value_operands (content.Float n) = keyword key.Float ∷ operand slot.Float (word n) ∷ []
  value_operands (content.Double n) = keyword key.Double ∷ operand slot.Double (wide n) ∷ []
  value_operands (content.Named n) = named_operands n
  value_operands (content.Enum f) = keyword key.Enum ∷ operand slot.Enum (constant f) ∷ []
  value_operands (content.Array vs) = keyword key.Array ∷ keyword key.Open ∷ (values_operands vs ++ (keyword key.Close ∷ []))
  value_operands content.Null = keyword key.Null ∷ []
  value_operands (content.Boolean b) = keyword (truth_key b) ∷ []

  pub values_operands : Values → List Operand
  values_operands no_values = []
  values_operands (more_values v vs) = value_operands v ++ values_operands vs
