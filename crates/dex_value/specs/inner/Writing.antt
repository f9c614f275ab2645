-- Beside Writing.antt: what no promise reaches.
use Rattle.std.specs.Prelude.{◌≡◌, ℕ, ℤ, pos, negsuc, ◌+◌, ◌*◌, ◌-◌, ◌%◌, ◌^◌, ◌<◌, ◌≤◌, List, ◌∷◌, length}
use Rattle.program_types.specs.Content.{Name}
use Rattle.dex_value.specs.Spelling.{Sized, signed_of, unsigned_of, high_of}

-- How far a number is from 0, or from -1 where it is negative.
abbrev pub magnitude_of : ℤ → ℕ
magnitude_of (pos n) = n
magnitude_of (negsuc n) = n

-- The fewest bytes that hold an unsigned number, one at least.
pub record IsNumberWidth (n width : ℕ) : Type 0 where
  pub some : 0 < width
  pub few : width ≤ 8
  pub fits : n < 256 ^ width
  pub least : (k : ℕ) → 0 < k → n < 256 ^ k → width ≤ k

-- The fewest high bytes of a number of `full` bytes, one at least, after which all are zeros.
pub record IsHighWidth (bits full width : ℕ) : Type 0 where
  pub some : 0 < width
  pub few : width ≤ full
  pub zeros : bits % 256 ^ (full - width) ≡ 0
  pub least : (k : ℕ) → 0 < k → k ≤ full → bits % 256 ^ (full - k) ≡ 0 → width ≤ k

-- The spellings of a signed number of a type, at most `widest` bytes after the head.
abbrev pub SignedAs : ℕ → ℕ → List ℕ → ℤ → Type 0
SignedAs type widest bytes n = Sized type widest (λ low. n ≡ signed_of low) bytes

-- The spellings of bits of a type by their high-order bytes, at most `widest` bytes after the head.
abbrev pub HighAs : ℕ → ℕ → List ℕ → ℕ → Type 0
HighAs type widest bytes bits = Sized type widest (λ high. bits ≡ high_of widest high) bytes

-- The spellings of a name in a value of a type.
abbrev pub IndexAs : (ℕ → Name → Type 0) → ℕ → List ℕ → Name → Type 0
IndexAs N type bytes which = Sized type 4 (λ low. N (unsigned_of low) which) bytes

-- The head of so many bytes, and after it these.
abbrev pub sized : ℕ → List ℕ → List ℕ
sized type low = (32 * (length low - 1) + type) ∷ low
