-- The shapes that a line can have: its kind, and its slots.
-- Page: docs/LISTING.md, "The lines", "Values"; "Dalvik Executable instruction formats", "The formats".
use Rattle.std.specs.Prelude.{◌≡◌, ℕ, zero, suc, ◌+◌, ◌-◌, ◌/◌, Bool, true, false, nat_le, if◌then◌else◌, ◌⊎◌, List, [], ◌∷◌, ◌++◌, length, drop, replicate, Option, Some, None, option_map}
use Rattle.dex_insn.specs.declared.opcode.Format.{Format}
use Rattle.dex_insn.specs.declared.opcode.Format.TheVariants as format
use Rattle.dex_insn.specs.declared.opcode.IndexKind.{IndexKind}
use Rattle.dex_insn.specs.declared.opcode.IndexKind.TheVariants as index
use Rattle.dex_insn.specs.Opcodes.{format_of, index_kind_of}
use Rattle.dex_insn.specs.Mnemonics.{IsNamed}
use Rattle.listing_words.specs.Words.{Word, plain_word, text_in_quotes}
use Rattle.listing_words.specs.Numbers.{is_natural}
use Rattle.listing_slots.specs.declared.kind.Kind.{Kind}
use Rattle.listing_slots.specs.declared.kind.Kind.TheVariants as kind
use Rattle.listing_slots.specs.declared.slot.Mark.TheVariants.{Nothing, Register, Target}
use Rattle.listing_slots.specs.declared.slot.Slot.{Slot}
use Rattle.listing_slots.specs.declared.slot.Slot.TheVariants as slot
use Rattle.listing_slots.specs.declared.key.Key.{Key}
use Rattle.listing_slots.specs.declared.key.Key.TheVariants as key
use Rattle.listing_slots.specs.declared.due.Due.{Due}
use Rattle.listing_slots.specs.declared.due.Due.TheVariants as due
use Rattle.listing_slots.specs.Keys.{key_text, same, find_key, lead_keys, value_keys, payload_keys}
use Rattle.listing_slots.specs.Slots.{have_forms}

-- ---- instructions

-- A register of four bits.
abbrev pub register4 : Slot
register4 = slot.Byte Register 15

-- A register of eight bits.
abbrev pub register8 : Slot
register8 = slot.Byte Register 255

-- A register of sixteen bits.
abbrev pub register16 : Slot
register16 = slot.Half Register 65535

-- A target: an instruction's number.
abbrev pub target : Slot
target = slot.Word Target 4294967295

-- The slot of what an instruction names.
abbrev pub name_slot : Option IndexKind → Slot
name_slot (Some index.String) = slot.Text
name_slot (Some index.Field) = slot.Field
name_slot (Some index.Method) = slot.Method
name_slot _ = slot.Desc

-- The word is this keyword.
abbrev pub is_key : Key → Word → Bool
is_key k (plain_word w) = same (key_text k) w
is_key k (text_in_quotes us) = false

-- How many words are before the first `}`, five at most.
unfoldable pub before_close : ℕ → List Word → ℕ
before_close most [] = 0
before_close zero (w ∷ ws) = 0
before_close (suc most) (w ∷ ws) = if is_key key.Close w then 0 else before_close most ws + 1

-- The operands of a format; the words decide how many registers are in braces.
abbrev pub format_slots : Format → Option IndexKind → List Word → List Slot
format_slots format.F10x i ws = []
format_slots format.F12x i ws = register4 ∷ register4 ∷ []
format_slots format.F11n i ws = register4 ∷ slot.Nibble ∷ []
format_slots format.F11x i ws = register8 ∷ []
format_slots format.F10t i ws = target ∷ []
format_slots format.F20t i ws = target ∷ []
format_slots format.F22x i ws = register8 ∷ register16 ∷ []
format_slots format.F21t i ws = register8 ∷ target ∷ []
format_slots format.F21s i ws = register8 ∷ slot.Short ∷ []
format_slots format.F21h i ws = register8 ∷ slot.Short ∷ []
format_slots format.F21c i ws = register8 ∷ name_slot i ∷ []
format_slots format.F23x i ws = register8 ∷ register8 ∷ register8 ∷ []
format_slots format.F22b i ws = register8 ∷ register8 ∷ slot.Tiny ∷ []
format_slots format.F22t i ws = register4 ∷ register4 ∷ target ∷ []
format_slots format.F22s i ws = register4 ∷ register4 ∷ slot.Short ∷ []
format_slots format.F22c i ws = register4 ∷ register4 ∷ name_slot i ∷ []
format_slots format.F30t i ws = target ∷ []
format_slots format.F32x i ws = register16 ∷ register16 ∷ []
format_slots format.F31i i ws = register8 ∷ slot.Int ∷ []
format_slots format.F31t i ws = register8 ∷ target ∷ []
format_slots format.F31c i ws = register8 ∷ name_slot i ∷ []
format_slots format.F35c i ws = slot.Key key.Open ∷ (replicate (before_close 5 (drop 1 ws)) register4 ++ (slot.Key key.Close ∷ name_slot i ∷ []))
format_slots format.F3rc i ws = register16 ∷ slot.Byte Nothing 255 ∷ name_slot i ∷ []
format_slots format.F51l i ws = register8 ∷ slot.Long ∷ []

-- The operands of an opcode; none where it isn't used.
abbrev pub plain_slots : Option Format → Option IndexKind → List Word → List Slot
plain_slots None i ws = []
plain_slots (Some f) i ws = format_slots f i ws

-- A key and a target, so many times.
unfoldable pub pairs : ℕ → List Slot
pairs zero = []
pairs (suc n) = slot.Int ∷ target ∷ pairs n

-- ---- values

-- after a whole value in so many arrays
abbrev pub due_after : ℕ → Due
due_after zero = due.Nothing
due_after (suc n) = due.Value (suc n)

-- after a value's keyword
abbrev pub due_of_key : ℕ → Key → Due
due_of_key n key.Array = due.Word (slot.Key key.Open) (n + 1)
due_of_key n key.Byte = due.Word (slot.Tiny) n
due_of_key n key.Short = due.Word slot.Short n
due_of_key n key.Char = due.Word (slot.Half Nothing 65535) n
due_of_key n key.Int = due.Word slot.Int n
due_of_key n key.Long = due.Word slot.Long n
due_of_key n key.Float = due.Word slot.Float n
due_of_key n key.Double = due.Word slot.Double n
due_of_key n key.Text = due.Word slot.Text n
due_of_key n key.Desc = due.Word slot.Desc n
due_of_key n key.Field = due.Word slot.Field n
due_of_key n key.Method = due.Word slot.Method n
due_of_key n key.Enum = due.Word slot.Enum n
due_of_key n _ = due_after n

-- after `}`
abbrev pub due_after_close : ℕ → Due
due_after_close zero = due.Refused
due_after_close (suc n) = due_after n

-- After a keyword of values, if it is one.
abbrev pub due_after_key : ℕ → Option Key → Due
due_after_key n None = due.Refused
due_after_key n (Some k) = due_of_key n k

-- The slot of a keyword; a text where it is none, which no plain word is.
abbrev pub key_slot : Option Key → Slot
key_slot None = slot.Text
key_slot (Some k) = slot.Key k

-- The slot of a word, and what is due after it.
unfoldable pub slot_at : Due → Word → Slot
slot_at (due.Word s n) w = s
slot_at (due.Value n) (plain_word w) = if same (key_text key.Close) w then slot.Key key.Close else key_slot (find_key value_keys w)
slot_at _ w = slot.Text

-- What is due after a word.
unfoldable pub due_after_word : Due → Word → Due
due_after_word (due.Word s n) w = due_after n
due_after_word (due.Value n) (plain_word w) = if same (key_text key.Close) w then due_after_close n else due_after_key n (find_key value_keys w)
due_after_word _ w = due.Refused

-- Nothing is due: the value is whole.
abbrev pub is_whole : Due → Bool
is_whole due.Nothing = true
is_whole _ = false

-- The slots of these words, where they are what is due.
unfoldable pub value_slots : Due → List Word → Option (List Slot)
value_slots d [] = if is_whole d then Some [] else None
value_slots d (w ∷ ws) = option_map (λ ss. slot_at d w ∷ ss) (value_slots (due_after_word d w) ws)

-- ---- lines

-- What a line is, the number that it gives itself if it is an instruction, and a slot for each word after its keywords.
pub record Shape : Type 0 where
  pub kind : Kind
  pub label : List ℕ
  pub slots : List Slot
  pub words : List Word

-- What a line is, and its slots.
abbrev pub Row : Type 0
Row = Kind × List Slot

-- Access flags.
abbrev pub flags : Slot
flags = slot.Flags

-- A number of 16 bits: a count of registers, or a width.
abbrev pub size : Slot
size = slot.Half Nothing 65535

-- A field: its name, its type, its flags.
abbrev pub field_slots : List Slot
field_slots = slot.Member ∷ slot.Desc ∷ flags ∷ []

-- A method: its name, its prototype, its flags.
abbrev pub method_slots : List Slot
method_slots = slot.Member ∷ slot.Proto ∷ flags ∷ []

-- A static field with a value.
abbrev pub given_row : Option (List Slot) → Option Row
given_row None = None
given_row (Some ss) = Some (kind.Given, slot.Member ∷ slot.Desc ∷ flags ∷ slot.Key key.Equals ∷ ss)

-- The first of the words is this keyword.
abbrev pub is_first_key : Key → List Word → Bool
is_first_key k [] = false
is_first_key k (w ∷ ws) = is_key k w

-- After the keyword of a line.
unfoldable pub key_row : Key → List Word → Option Row
key_row key.Dex ws = Some (kind.First, slot.Key key.Version ∷ [])
key_row key.Class ws = Some (kind.OpenClass, slot.Desc ∷ flags ∷ [])
key_row key.End ws = if is_first_key key.Code ws then Some (kind.EndCode, slot.Key key.Code ∷ []) else Some (kind.EndClass, slot.Key key.Class ∷ [])
key_row key.Super ws = Some (kind.Super, slot.Desc ∷ [])
key_row key.Implements ws = Some (kind.Implements, slot.Desc ∷ [])
key_row key.Source ws = Some (kind.Source, slot.Text ∷ [])
key_row key.Static ws = if nat_le (length ws) 3 then Some (kind.Static, field_slots) else given_row (value_slots (due.Value 0) (drop 4 ws))
key_row key.Instance ws = Some (kind.Instance, field_slots)
key_row key.Direct ws = Some (kind.Direct, method_slots)
key_row key.Virtual ws = Some (kind.Virtual, method_slots)
key_row key.Code ws = Some (kind.OpenCode, size ∷ size ∷ size ∷ [])
key_row key.Try ws = Some (kind.Try, target ∷ target ∷ [])
key_row key.Catch ws = Some (kind.Catch, slot.Desc ∷ target ∷ [])
key_row key.CatchAll ws = Some (kind.CatchAll, target ∷ [])
key_row _ ws = None

-- After the word of a payload.
unfoldable pub payload_row : Key → List Word → Option Row
payload_row key.Packed ws = Some (kind.Packed, slot.Int ∷ replicate (length ws - 1) target)
payload_row key.Sparse ws = Some (kind.Sparse, pairs (length ws / 2))
payload_row key.Elements ws = Some (kind.Elements, if nat_le (length ws) 1 then size ∷ [] else size ∷ slot.Elements ∷ [])
payload_row _ ws = None

-- After a mnemonic.
abbrev pub IsPlainRow : List ℕ → List Word → Row → Type 0
IsPlainRow text ws row = (op : ℕ) × IsNamed op text × (row ≡ (kind.Plain op, plain_slots (format_of op) (index_kind_of op) ws))

-- After a mnemonic or the word of a payload.
abbrev pub IsInsnRow : List ℕ → List Word → Row → Type 0
IsInsnRow text ws row = IsPlainRow text ws row ⊎ ((k : Key) × (Some k ≡ find_key payload_keys text) × (Some row ≡ payload_row k ws))

-- A mnemonic or the word of a payload, and words of the forms of its slots.
pub record BeginsWithInsn (ws : List Word) (row : Row) : Type 0 where
  pub text : List ℕ
  pub after : List Word
  pub words : ws ≡ plain_word text ∷ after
  pub has_row : IsInsnRow text after row
  pub forms : have_forms row.1 after ≡ true

-- The keyword of a line, and words of the forms of its slots.
pub record BeginsWithKey (text : List ℕ) (after : List Word) (row : Row) : Type 0 where
  pub lead : Key
  pub found : Some lead ≡ find_key lead_keys text
  pub has_row : Some row ≡ key_row lead after
  pub forms : have_forms row.1 after ≡ true

-- An instruction: `k:`, and what begins with a mnemonic.
pub record IsLabelled (ws : List Word) (s : Shape) : Type 0 where
  pub label : List ℕ
  pub after : List Word
  pub words : ws ≡ plain_word (label ++ 58 ∷ []) ∷ after
  pub natural : is_natural label ≡ true
  pub row : Row
  pub insn : BeginsWithInsn after row
  pub is : s ≡ record { kind = row.0; label = label; slots = row.1; words = drop 1 after }

-- Any other line: its keyword.
pub record IsKeyed (ws : List Word) (s : Shape) : Type 0 where
  pub text : List ℕ
  pub after : List Word
  pub words : ws ≡ plain_word text ∷ after
  pub row : Row
  pub keyed : BeginsWithKey text after row
  pub is : s ≡ record { kind = row.0; label = []; slots = row.1; words = after }

-- The words have this shape.
abbrev pub HasShape : List Word → Shape → Type 0
HasShape ws s = IsLabelled ws s ⊎ IsKeyed ws s

-- An instruction without a number: its first word is no keyword of a line.
pub record IsUnnumbered (ws : List Word) (s : Shape) : Type 0 where
  pub text : List ℕ
  pub after : List Word
  pub words : ws ≡ plain_word text ∷ after
  pub no_lead : None ≡ find_key lead_keys text
  pub row : Row
  pub insn : BeginsWithInsn ws row
  pub is : s ≡ record { kind = row.0; label = []; slots = row.1; words = after }

-- The words have this shape where instructions don't give themselves numbers.
abbrev pub HasBareShape : List Word → Shape → Type 0
HasBareShape ws s = IsUnnumbered ws s ⊎ IsKeyed ws s
