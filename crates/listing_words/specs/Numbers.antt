-- Numbers as they are written: in decimal or hexadecimal digits of either case, with any number of leading zeros.
-- Page: docs/LISTING.md, "What a word can be".
use Rattle.std.specs.Prelude.{◌≡◌, ℕ, ◌<◌, ◌+◌, ◌*◌, ◌==◌, ◌&&◌, Bool, nat_lt, if◌then◌else◌, ℤ, pos, neg_ℤ, ◌⊎◌, List, [], ◌∷◌, length, drop, slice_index}
use Rattle.std.specs.List.{list_all}
use Rattle.std.specs.Char.{digit_value}
use Rattle.std.specs.Str.Parse.{IsNumeral, AllDigits, digits_value}

-- Decimal digits, or `0x` and hexadecimal digits.
abbrev pub SpellsNatural : List ℕ → ℕ → Type 0
SpellsNatural word n =
    (IsNumeral 10 word × (n ≡ digits_value 10 word))
    ⊎ ((ds : List ℕ) × (word ≡ 48 ∷ 120 ∷ ds) × IsNumeral 16 ds × (n ≡ digits_value 16 ds))

-- A whole number: decimal digits, or `0x` and hexadecimal digits, with `-` before them or without.
abbrev pub SpellsWhole : List ℕ → ℤ → Type 0
SpellsWhole word z =
    ((n : ℕ) × SpellsNatural word n × (z ≡ pos n))
    ⊎ ((ds : List ℕ) × (n : ℕ) × (word ≡ 45 ∷ ds) × SpellsNatural ds n × (z ≡ neg_ℤ (pos n)))

-- Exactly so many hexadecimal digits.
pub record SpellsBits (count : ℕ) (word : List ℕ) (n : ℕ) : Type 0 where
  pub many : length word ≡ count
  pub digits : AllDigits 16 word
  pub number : n ≡ digits_value 16 word

-- Pairs of hexadecimal digits.
abbrev pub SpellsElements : List ℕ → List ℕ → Type 0
SpellsElements [] bytes = bytes ≡ []
SpellsElements (a ∷ []) bytes = ⊥
SpellsElements (a ∷ b ∷ ds) bytes = (digit_value a < 16) × (digit_value b < 16) × ((more : List ℕ) × SpellsElements ds more × (bytes ≡ (digit_value a * 16 + digit_value b) ∷ more))

-- There are digits, and nothing else.
abbrev pub all_digits : ℕ → List ℕ → Bool
all_digits radix ds = nat_lt 0 (length ds) && list_all (λ c. nat_lt (digit_value c) radix) ds

-- `0x` is at the front.
abbrev pub has_prefix : List ℕ → Bool
has_prefix word = (slice_index word 0 == 48) && (slice_index word 1 == 120)

-- The word is a number without a sign.
abbrev pub is_natural : List ℕ → Bool
is_natural word = if has_prefix word then all_digits 16 (drop 2 word) else all_digits 10 word

-- Which one it then is.
abbrev pub natural_value : List ℕ → ℕ
natural_value word = if has_prefix word then digits_value 16 (drop 2 word) else digits_value 10 word

-- The word is this number, written in any way.
abbrev pub is_number : List ℕ → ℕ → Bool
is_number word n = is_natural word && (natural_value word == n)
