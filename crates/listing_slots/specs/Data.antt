-- The values of the words of a line.
use Rattle.std.specs.Prelude.{ℕ, ℤ, pos, List, [], get_or}
use Rattle.program_types.specs.Content.{Units, Descriptor, Proto, FieldRef, Name, OfText, OfDesc}
use Rattle.listing_slots.specs.declared.key.Key.{Key}
use Rattle.listing_slots.specs.declared.key.Key.TheVariants.{Equals}

-- The value of a word: a number of so many bits, the bytes of an array, a name, or the keyword itself.
pub data Datum : Type 0 where
  byte : ℕ → Datum
  half : ℕ → Datum
  word : ℕ → Datum
  wide : ℕ → Datum
  tiny : ℤ → Datum
  short : ℤ → Datum
  int : ℤ → Datum
  long : ℤ → Datum
  elements : List ℕ → Datum
  named : Name → Datum
  constant : FieldRef → Datum
  prototype : Proto → Datum
  key_word : Key → Datum

-- ---- the value of the word at a place; 0 or empty if it is of another kind

-- The word at a place.
abbrev pub at : List Datum → ℕ → Datum
at ds i = get_or ds i (key_word Equals)

-- A number of 8 bits.
unfoldable pub byte_of : Datum → ℕ
byte_of (byte n) = n
byte_of _ = 0

-- A number of 16 bits.
unfoldable pub half_of : Datum → ℕ
half_of (half n) = n
half_of _ = 0

-- A number of 32 bits.
unfoldable pub word_of : Datum → ℕ
word_of (word n) = n
word_of _ = 0

-- A signed number of 8 bits.
unfoldable pub tiny_of : Datum → ℤ
tiny_of (tiny z) = z
tiny_of _ = pos 0

-- A signed number of 16 bits.
unfoldable pub short_of : Datum → ℤ
short_of (short z) = z
short_of _ = pos 0

-- A signed number of 32 bits.
unfoldable pub int_of : Datum → ℤ
int_of (int z) = z
int_of _ = pos 0

-- A signed number of 64 bits.
unfoldable pub long_of : Datum → ℤ
long_of (long z) = z
long_of _ = pos 0

-- The bytes of an array.
unfoldable pub elements_of : Datum → List ℕ
elements_of (elements bs) = bs
elements_of _ = []

-- A name.
unfoldable pub name_of : Datum → Name
name_of (named n) = n
name_of _ = OfText []

-- A string.
unfoldable pub text_of : Datum → Units
text_of (named (OfText us)) = us
text_of _ = []

-- A type.
unfoldable pub type_of : Datum → Descriptor
type_of (named (OfDesc d)) = d
type_of _ = []

-- A prototype.
unfoldable pub proto_of : Datum → Proto
proto_of (prototype p) = p
proto_of _ = record { ret = []; params = [] }
