-- The value of a word in a slot.
-- Page: docs/LISTING.md, "What a word can be", "Faults".
use Rattle.std.specs.Prelude.{◌≡◌, ℕ, ◌≤◌, ◌⊎◌, ℤ, pos, negsuc, Bool, true, false, ◌&&◌, if◌then◌else◌, List, [], ◌∷◌, ◌++◌}
use Rattle.dex_base.specs.Descriptor.{IsDescriptor, IsMemberName}
use Rattle.program_types.specs.Content.{FieldRef, MethodRef, Proto, OfText, OfDesc, OfField, OfMethod}
use Rattle.listing_words.specs.Words.{Word, plain_word, text_in_quotes}
use Rattle.listing_words.specs.Numbers.{SpellsNatural, SpellsWhole, SpellsBits, SpellsElements}
use Rattle.listing_words.specs.Names.{SpellsUnits, IsProtoText, IsFieldText, IsMethodText}
use Rattle.listing_slots.specs.declared.slot.Mark.{Mark}
use Rattle.listing_slots.specs.declared.slot.Mark.TheVariants as mark
use Rattle.listing_slots.specs.declared.slot.Slot.{Slot}
use Rattle.listing_slots.specs.declared.slot.Slot.TheVariants as slot
use Rattle.listing_slots.specs.Keys.{key_text, same}
use Rattle.listing_slots.specs.Data.{Datum, byte, half, word, wide, tiny, short, int, long, elements, named, constant, prototype, key_word}

-- The mark before a number.
abbrev pub mark_text : Mark → List ℕ
mark_text mark.Nothing = []
mark_text mark.Register = 118 ∷ []
mark_text mark.Target = 64 ∷ []

-- A mark, and a number up to the highest that is allowed.
pub record SpellsNumber (before : Mark) (most : ℕ) (w : Word) (n : ℕ) : Type 0 where
  pub digits : List ℕ
  pub joined : w ≡ plain_word (mark_text before ++ digits)
  pub spelled : SpellsNatural digits n
  pub small : n ≤ most

-- From minus one more than the highest up to it.
abbrev pub IsSignedWithin : ℕ → ℤ → Type 0
IsSignedWithin most (pos n) = n ≤ most
IsSignedWithin most (negsuc n) = n ≤ most

-- A signed number in that range.
pub record SpellsInteger (most : ℕ) (w : Word) (z : ℤ) : Type 0 where
  pub digits : List ℕ
  pub joined : w ≡ plain_word digits
  pub spelled : SpellsWhole digits z
  pub small : IsSignedWithin most z

-- A word without quotes, whose bytes are in G.
abbrev pub SpellsPlain : {V : Type 0} → (List ℕ → V → Type 0) → Word → V → Type 0
SpellsPlain G w v = (text : List ℕ) × (w ≡ plain_word text) × G text v

-- A word without quotes, whose units are in G.
abbrev pub SpellsNamed : {V : Type 0} → (List ℕ → V → Type 0) → Word → V → Type 0
SpellsNamed G w v = (text : List ℕ) × (us : List ℕ) × (w ≡ plain_word text) × SpellsUnits text us × G us v

-- The units are the name of a member.
abbrev pub IsMember : List ℕ → List ℕ → Type 0
IsMember us n = IsMemberName us × (n ≡ us)

-- The units are a type.
abbrev pub IsType : List ℕ → List ℕ → Type 0
IsType us d = IsDescriptor us × (d ≡ us)

-- The word has this value in the slot.
abbrev pub SpellsSlot : Slot → Word → Datum → Type 0
SpellsSlot (slot.Byte m most) w d = (n : ℕ) × SpellsNumber m most w n × (d ≡ byte n)
SpellsSlot (slot.Half m most) w d = (n : ℕ) × SpellsNumber m most w n × (d ≡ half n)
SpellsSlot (slot.Word m most) w d = (n : ℕ) × SpellsNumber m most w n × (d ≡ word n)
SpellsSlot slot.Nibble w d = (z : ℤ) × SpellsInteger 7 w z × (d ≡ tiny z)
SpellsSlot slot.Tiny w d = (z : ℤ) × SpellsInteger 127 w z × (d ≡ tiny z)
SpellsSlot slot.Short w d = (z : ℤ) × SpellsInteger 32767 w z × (d ≡ short z)
SpellsSlot slot.Int w d = (z : ℤ) × SpellsInteger 2147483647 w z × (d ≡ int z)
SpellsSlot slot.Long w d = (z : ℤ) × SpellsInteger 9223372036854775807 w z × (d ≡ long z)
SpellsSlot slot.Flags w d = (n : ℕ) × SpellsNumber mark.Nothing 4294967295 w n × (d ≡ word n)
SpellsSlot slot.Float w d = (n : ℕ) × SpellsPlain (SpellsBits 8) w n × (d ≡ word n)
SpellsSlot slot.Double w d = (n : ℕ) × SpellsPlain (SpellsBits 16) w n × (d ≡ wide n)
SpellsSlot slot.Elements w d = (bs : List ℕ) × SpellsPlain SpellsElements w bs × (d ≡ elements bs)
SpellsSlot slot.Text w d = (us : List ℕ) × (w ≡ text_in_quotes us) × (d ≡ named (OfText us))
SpellsSlot slot.Member w d = (us : List ℕ) × SpellsNamed IsMember w us × (d ≡ named (OfText us))
SpellsSlot slot.Desc w d = (us : List ℕ) × SpellsNamed IsType w us × (d ≡ named (OfDesc us))
SpellsSlot slot.Field w d = (f : FieldRef) × SpellsNamed IsFieldText w f × (d ≡ named (OfField f))
SpellsSlot slot.Method w d = (m : MethodRef) × SpellsNamed IsMethodText w m × (d ≡ named (OfMethod m))
SpellsSlot slot.Enum w d = (f : FieldRef) × SpellsNamed IsFieldText w f × (d ≡ constant f)
SpellsSlot slot.Proto w d = (p : Proto) × SpellsNamed IsProtoText w p × (d ≡ prototype p)
SpellsSlot (slot.Key k) w d = d ≡ key_word k

-- Each word has this value in its slot.
abbrev pub SpellsSlots : List Slot → List Word → List Datum → Type 0
SpellsSlots [] [] [] = Unit {0}
SpellsSlots (s ∷ ss) (w ∷ ws) (d ∷ ds) = SpellsSlot s w d × SpellsSlots ss ws ds
SpellsSlots _ _ _ = ⊥

-- The slot is that of a name.
abbrev pub is_name_slot : Slot → Bool
is_name_slot slot.Member = true
is_name_slot slot.Desc = true
is_name_slot slot.Field = true
is_name_slot slot.Method = true
is_name_slot slot.Enum = true
is_name_slot slot.Proto = true
is_name_slot _ = false

-- The fault of a word without a value in its slot: 101 Name, 102 Number.
abbrev pub fault_of : Slot → ℕ
fault_of s = if is_name_slot s then 101 else 102

-- From the left, the first word without a value in its slot has this fault.
abbrev pub MisspellsSlots : List Slot → List Word → ℕ → Type 0
MisspellsSlots (s ∷ ss) (w ∷ ws) code =
    (((d : Datum) → SpellsSlot s w d → ⊥) × (code ≡ fault_of s))
    ⊎ ((d : Datum) × SpellsSlot s w d × MisspellsSlots ss ws code)
MisspellsSlots _ _ code = ⊥

-- The word has the slot's form: a text where one is due, the keyword where it is due, else any other word.
abbrev pub has_form : Slot → Word → Bool
has_form slot.Text (text_in_quotes us) = true
has_form slot.Text (plain_word w) = false
has_form (slot.Key k) (plain_word w) = same (key_text k) w
has_form _ (plain_word w) = true
has_form _ (text_in_quotes us) = false

-- As many words as slots, each of its slot's form.
unfoldable pub have_forms : List Slot → List Word → Bool
have_forms [] [] = true
have_forms (s ∷ ss) (w ∷ ws) = has_form s w && have_forms ss ws
have_forms _ _ = false
