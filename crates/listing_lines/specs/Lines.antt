-- The meaning of a line.
-- Page: docs/LISTING.md, "The lines", "Values".
use Rattle.std.specs.Prelude.{ℕ, min, ◌-◌, List, [], ◌∷◌, ◌++◌, length, take, drop, map, fold, Option, Some, None, true, false}
use Rattle.dex_insn.specs.declared.opcode.Format.{Format}
use Rattle.dex_insn.specs.declared.opcode.Format.TheVariants as format
use Rattle.dex_insn.specs.Opcodes.{format_of}
use Rattle.program_types.specs.Content as content
use Rattle.program_types.specs.Content.{Units, Descriptor, Value, Insn, Member, Method}
use Rattle.listing_slots.specs.declared.kind.Kind.{Kind}
use Rattle.listing_slots.specs.declared.kind.Kind.TheVariants as kind
use Rattle.listing_slots.specs.declared.key.Key.TheVariants as key
use Rattle.listing_slots.specs.Data.{Datum, byte, half, word, wide, tiny, short, int, long, elements, named, constant, prototype, key_word, at, byte_of, half_of, word_of, tiny_of, short_of, int_of, long_of, elements_of, name_of, text_of, type_of, proto_of}

-- ---- instructions

-- The instruction of this opcode and these operands.
unfoldable pub insn_of : Option Format → ℕ → List Datum → Insn
insn_of (Some format.F10x) op ds = content.I10x op
insn_of (Some format.F12x) op ds = content.I12x op (byte_of (at ds 0)) (byte_of (at ds 1))
insn_of (Some format.F11n) op ds = content.I11n op (byte_of (at ds 0)) (tiny_of (at ds 1))
insn_of (Some format.F11x) op ds = content.I11x op (byte_of (at ds 0))
insn_of (Some format.F10t) op ds = content.I10t op (word_of (at ds 0))
insn_of (Some format.F20t) op ds = content.I20t op (word_of (at ds 0))
insn_of (Some format.F22x) op ds = content.I22x op (byte_of (at ds 0)) (half_of (at ds 1))
insn_of (Some format.F21t) op ds = content.I21t op (byte_of (at ds 0)) (word_of (at ds 1))
insn_of (Some format.F21s) op ds = content.I21s op (byte_of (at ds 0)) (short_of (at ds 1))
insn_of (Some format.F21h) op ds = content.I21h op (byte_of (at ds 0)) (short_of (at ds 1))
insn_of (Some format.F21c) op ds = content.I21c op (byte_of (at ds 0)) (name_of (at ds 1))
insn_of (Some format.F23x) op ds = content.I23x op (byte_of (at ds 0)) (byte_of (at ds 1)) (byte_of (at ds 2))
insn_of (Some format.F22b) op ds = content.I22b op (byte_of (at ds 0)) (byte_of (at ds 1)) (tiny_of (at ds 2))
insn_of (Some format.F22t) op ds = content.I22t op (byte_of (at ds 0)) (byte_of (at ds 1)) (word_of (at ds 2))
insn_of (Some format.F22s) op ds = content.I22s op (byte_of (at ds 0)) (byte_of (at ds 1)) (short_of (at ds 2))
insn_of (Some format.F22c) op ds = content.I22c op (byte_of (at ds 0)) (byte_of (at ds 1)) (name_of (at ds 2))
insn_of (Some format.F30t) op ds = content.I30t op (word_of (at ds 0))
insn_of (Some format.F32x) op ds = content.I32x op (half_of (at ds 0)) (half_of (at ds 1))
insn_of (Some format.F31i) op ds = content.I31i op (byte_of (at ds 0)) (int_of (at ds 1))
insn_of (Some format.F31t) op ds = content.I31t op (byte_of (at ds 0)) (word_of (at ds 1))
insn_of (Some format.F31c) op ds = content.I31c op (byte_of (at ds 0)) (name_of (at ds 1))
-- braces are words too; what isn't a register is 0
insn_of (Some format.F35c) op ds =
    content.I35c op (min (length ds - 3) 255) (byte_of (at ds 1) ∷ byte_of (at ds 2) ∷ byte_of (at ds 3) ∷ byte_of (at ds 4) ∷ byte_of (at ds 5) ∷ []) (name_of (at ds (length ds - 1)))
insn_of (Some format.F3rc) op ds = content.I3rc op (byte_of (at ds 1)) (half_of (at ds 0)) (name_of (at ds 2))
insn_of (Some format.F51l) op ds = content.I51l op (byte_of (at ds 0)) (long_of (at ds 1))
insn_of None op ds = content.I10x op

-- ---- values

-- A value in the making: the values so far, and where the open arrays begin in them.
pub record Making : Type 0 where
  pub values : List Value
  pub begins : List ℕ

-- One value more.
abbrev pub with_value : Making → Value → Making
with_value m v = record m { values = m.values ++ v ∷ [] }

-- the innermost array is whole
abbrev pub close_array : Making → ℕ → List ℕ → Making
close_array m begin others = record { values = take begin m.values ++ content.Array (content.values (drop begin m.values)) ∷ []; begins = others }

-- One word more: a bracket opens or closes an array, a value joins the others.
abbrev pub with_word : Making → Datum → Making
with_word m (key_word key.Open) = record m { begins = length m.values ∷ m.begins }
with_word m (key_word key.Close) = elim m.begins [ [] ↦ m | begin ∷ others ↦ close_array m begin others ]
with_word m (key_word key.Null) = with_value m content.Null
with_word m (key_word key.True) = with_value m (content.Boolean true)
with_word m (key_word key.False) = with_value m (content.Boolean false)
with_word m (key_word _) = m
with_word m (byte n) = m
with_word m (half n) = with_value m (content.Char n)
with_word m (word n) = with_value m (content.Float n)
with_word m (wide n) = with_value m (content.Double n)
with_word m (tiny z) = with_value m (content.Byte z)
with_word m (short z) = with_value m (content.Short z)
with_word m (int z) = with_value m (content.Int z)
with_word m (long z) = with_value m (content.Long z)
with_word m (elements bs) = m
with_word m (named n) = with_value m (content.Named n)
with_word m (constant f) = with_value m (content.Enum f)
with_word m (prototype p) = m

-- The first of the values.
abbrev pub first_value : List Value → Value
first_value [] = content.Null
first_value (v ∷ vs) = v

-- The value of the words.
unfoldable pub value_of : List Datum → Value
value_of ds = first_value (fold with_word (record { values = []; begins = [] }) ds).values

-- ---- lines

-- What a line says.
pub data Line : Type 0 where
  first_line : Line
  open_class : (ty : Descriptor) (flags : ℕ) → Line
  end_class : Line
  super_line : Descriptor → Line
  implements_line : Descriptor → Line
  source_line : Units → Line
  static_line : Member → Option Value → Line
  instance_line : Member → Line
  direct_line : Method → Line
  virtual_line : Method → Line
  open_code : (registers ins outs : ℕ) → Line
  end_code : Line
  insn_line : Insn → Line
  try_line : (from to : ℕ) → Line
  catch_line : Descriptor → ℕ → Line
  catch_all_line : ℕ → Line

-- The field of the words: name, type, flags.
abbrev pub member_of : List Datum → Member
member_of ds = record { name = text_of (at ds 0); ty = type_of (at ds 1); flags = word_of (at ds 2) }

-- The method of the words, its code still open: name, prototype, flags.
abbrev pub method_of : List Datum → Method
method_of ds = record { name = text_of (at ds 0); proto = proto_of (at ds 1); flags = word_of (at ds 2); code = None }

-- every other one, from the first
unfoldable pub alternate : {A : Type 0} → List A → List A
alternate [] = []
alternate (x ∷ []) = x ∷ []
alternate (x ∷ y ∷ xs) = x ∷ alternate xs

-- The line of this kind with these values of its words.
unfoldable pub line_of : Kind → List Datum → Line
line_of kind.First ds = first_line
line_of kind.OpenClass ds = open_class (type_of (at ds 0)) (word_of (at ds 1))
line_of kind.EndClass ds = end_class
line_of kind.Super ds = super_line (type_of (at ds 0))
line_of kind.Implements ds = implements_line (type_of (at ds 0))
line_of kind.Source ds = source_line (text_of (at ds 0))
line_of kind.Static ds = static_line (member_of ds) None
line_of kind.Given ds = static_line (member_of ds) (Some (value_of (drop 4 ds)))
line_of kind.Instance ds = instance_line (member_of ds)
line_of kind.Direct ds = direct_line (method_of ds)
line_of kind.Virtual ds = virtual_line (method_of ds)
line_of kind.OpenCode ds = open_code (half_of (at ds 0)) (half_of (at ds 1)) (half_of (at ds 2))
line_of kind.EndCode ds = end_code
line_of (kind.Plain op) ds = insn_line (insn_of (format_of op) op ds)
line_of kind.Packed ds = insn_line (content.Packed (int_of (at ds 0)) (map word_of (drop 1 ds)))
line_of kind.Sparse ds = insn_line (content.Sparse (map int_of (alternate ds)) (map word_of (alternate (drop 1 ds))))
line_of kind.Elements ds = insn_line (content.Data (half_of (at ds 0)) (elements_of (at ds 1)))
line_of kind.Try ds = try_line (word_of (at ds 0)) (word_of (at ds 1))
line_of kind.Catch ds = catch_line (type_of (at ds 0)) (word_of (at ds 1))
line_of kind.CatchAll ds = catch_all_line (word_of (at ds 0))
