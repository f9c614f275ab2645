-- LEB128 numbers: "Dalvik Executable format", section "LEB128".
use Rattle.std.specs.Prelude.{◌≡◌, ℕ, ◌+◌, ◌-◌, ◌*◌, ◌%◌, ◌^◌, ◌<◌, ◌≤◌, List, [], ◌∷◌, length, slice_index, ℤ, pos, ◌-ℤ◌, ◌≤ℤ◌, ◌<ℤ◌, ◌+ℤ◌, if◌then◌else◌, nat_lt}

-- One or more bytes: the top bit is set on all but the last.
abbrev pub IsSequence : List ℕ → Type 0
IsSequence [] = ⊥
IsSequence (b ∷ []) = b < 128
IsSequence (b ∷ c ∷ bs) = (128 ≤ b) × IsSequence (c ∷ bs)

-- The low seven bits of each byte, the first byte's lowest: the sum of each times 128 to the power of its place.
abbrev pub low_first : List ℕ → ℕ
low_first [] = 0
low_first (b ∷ bs) = b % 128 + 128 * low_first bs

-- One to five bytes encode the unsigned number `n` of 32 bits (the page's uleb128).
pub record Spells (bytes : List ℕ) (n : ℕ) : Type 0 where
  pub short : length bytes ≤ 5
  pub sequence : IsSequence bytes
  pub number : n ≡ low_first bytes
  pub range : n < 2 ^ 32

-- The sum, less 128 to the power of the length where bit 6 of the last byte is set.
abbrev pub signed_low_first : List ℕ → ℤ
signed_low_first bytes =
    if nat_lt (slice_index bytes (length bytes - 1)) 64
    then pos (low_first bytes)
    else pos (low_first bytes) -ℤ pos (128 ^ length bytes)

-- One to five bytes encode the signed number `z` of 32 bits (the page's sleb128).
pub record SpellsSigned (bytes : List ℕ) (z : ℤ) : Type 0 where
  pub short : length bytes ≤ 5
  pub sequence : IsSequence bytes
  pub number : z ≡ signed_low_first bytes
  pub low : pos 0 ≤ℤ (z +ℤ pos (2 ^ 31))
  pub high : z <ℤ pos (2 ^ 31)

-- A spelling than which none of that value is shorter.
pub record Shortest {V : Type 0} (G : List ℕ → V → Type 0) (bytes : List ℕ) (v : V) : Type 0 where
  pub spelled : G bytes v
  pub least : (other : List ℕ) → G other v → length bytes ≤ length other
