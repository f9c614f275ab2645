-- Which bytes encode which value.
-- Page: "Dalvik Executable format", "encoded_value encoding", "Value formats" and "encoded_array format".
use Rattle.std.specs.Prelude.{◌≡◌, ℕ, suc, ℤ, ◌+◌, ◌*◌, ◌-◌, ◌^◌, ◌<◌, ◌≤◌, List, [], ◌∷◌, ◌++◌, length, slice_index, true, false}
use Rattle.byteorder.specs.Endian.{little_number, twos_complement}
use Rattle.dex_base.specs.Grammar.{Counted}
use Rattle.dex_base.specs.Leb128.{Spells}
use Rattle.program_types.specs.Content.{Name, OfText, OfDesc, OfField, OfMethod, Value, Byte, Short, Char, Int, Long, Float, Double, Named, Enum, Array, Null, Boolean, Values, no_values, more_values}

-- ---- the bytes after the head

-- The unsigned number of these bytes, the low byte first.
unfoldable pub unsigned_of : List ℕ → ℕ
unsigned_of bytes = little_number (length bytes) bytes

-- The signed number of these bytes in two's complement, the low byte first.
unfoldable pub signed_of : List ℕ → ℤ
signed_of bytes = twos_complement (length bytes) (little_number (length bytes) bytes)

-- The number of `width` bytes of which these are the high ones: those that are left out are zeros on the right.
unfoldable pub high_of : ℕ → List ℕ → ℕ
high_of width bytes = little_number (length bytes) bytes * 256 ^ (width - length bytes)

-- One to `widest` bytes of this meaning stand after the head: the type in its low five bits, and in the high three bits the
-- number of these bytes less one (the page's value_arg).
pub record Sized (type widest : ℕ) (Means : List ℕ → Type 0) (all : List ℕ) : Type 0 where
  pub low : List ℕ
  pub some : 0 < length low
  pub few : length low ≤ widest
  pub bytes : (i : ℕ) → slice_index low i < 256
  pub joined : all ≡ (32 * (length low - 1) + type) ∷ low
  pub means : Means low

-- ---- values

-- The type of a value that is a name: VALUE_STRING, VALUE_TYPE, VALUE_FIELD, VALUE_METHOD.
abbrev pub value_type_of : Name → ℕ
value_type_of (OfText units) = 0x17
value_type_of (OfDesc type) = 0x18
value_type_of (OfField field) = 0x19
value_type_of (OfMethod method) = 0x1a

-- How many values.
abbrev pub count_of : Values → ℕ
count_of no_values = 0
count_of (more_values v vs) = suc (count_of vs)

-- A count, and after it bytes of this meaning.
pub record After (n : ℕ) (Means : List ℕ → Type 0) (bytes : List ℕ) : Type 0 where
  pub count : List ℕ
  pub back : List ℕ
  pub joined : bytes ≡ count ++ back
  pub counted : Spells count n
  pub means : Means back

-- The bytes of one value, and those of values one after the other; `N` relates an index to the name that it denotes.
abbrev mutual
  pub SpellsValue : (ℕ → Name → Type 0) → List ℕ → Value → Type 0
  SpellsValue N bytes (Byte n) = Sized 0x00 1 (λ low. n ≡ signed_of low) bytes
  SpellsValue N bytes (Short n) = Sized 0x02 2 (λ low. n ≡ signed_of low) bytes
  SpellsValue N bytes (Char unit) = Sized 0x03 2 (λ low. unit ≡ unsigned_of low) bytes
  SpellsValue N bytes (Int n) = Sized 0x04 4 (λ low. n ≡ signed_of low) bytes
  SpellsValue N bytes (Long n) = Sized 0x06 8 (λ low. n ≡ signed_of low) bytes
  SpellsValue N bytes (Float bits) = Sized 0x10 4 (λ high. bits ≡ high_of 4 high) bytes
  SpellsValue N bytes (Double bits) = Sized 0x11 8 (λ high. bits ≡ high_of 8 high) bytes
  SpellsValue N bytes (Named which) = Sized (value_type_of which) 4 (λ low. N (unsigned_of low) which) bytes
  SpellsValue N bytes (Enum constant) = Sized 0x1b 4 (λ low. N (unsigned_of low) (OfField constant)) bytes
  SpellsValue N bytes (Array vs) = (text : List ℕ) × (bytes ≡ 0x1c ∷ text) × After (count_of vs) (λ back. SpellsValues N back vs) text
  SpellsValue N bytes Null = bytes ≡ 0x1e ∷ []
  SpellsValue N bytes (Boolean false) = bytes ≡ 0x1f ∷ []
  SpellsValue N bytes (Boolean true) = bytes ≡ 0x3f ∷ []

  pub SpellsValues : (ℕ → Name → Type 0) → List ℕ → Values → Type 0
  SpellsValues N bytes no_values = bytes ≡ []
  SpellsValues N bytes (more_values v vs) = (front : List ℕ) × (back : List ℕ) × (bytes ≡ front ++ back) × SpellsValue N front v × SpellsValues N back vs

-- An encoded_array: a count, and so many values.
abbrev pub SpellsArray : (ℕ → Name → Type 0) → List ℕ → List Value → Type 0
SpellsArray N = Counted Spells (SpellsValue N)
