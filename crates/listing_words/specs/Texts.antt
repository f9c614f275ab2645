-- Texts in quotes: units that are plain or escaped.
-- Page: docs/LISTING.md, "Lines and words".
use Rattle.std.specs.Prelude.{◌≡◌, ◌≢◌, ℕ, ◌+◌, ◌*◌, ◌<◌, ◌≤◌, ◌⊎◌, ◌||◌, ◌&&◌, nat_lt, ◌==◌, if◌then◌else◌, List, [], ◌∷◌, ◌++◌}
use Rattle.std.specs.List.{flat_map}
use Rattle.std.specs.Char.{digit_value}
use Rattle.listing_words.specs.Taking.{EachTaken}
pub use Rattle.program_types.specs.Written.{glyph, escape_text}

-- An escape is written in a text as in a name.

-- A plain unit.
pub record IsUnescaped (u : ℕ) : Type 0 where
  pub low : 32 ≤ u
  pub high : u < 127
  pub no_quote : u ≢ 34
  pub no_escape : u ≢ 92

-- The value of a hexadecimal digit; 16 or more for any other byte.
unfoldable pub hex : ℕ → ℕ
hex c = digit_value c

-- A backslash, a `u`, and four hexadecimal digits.
pub record TakesHex (text : List ℕ) (u : ℕ) (rest : List ℕ) : Type 0 where
  pub a : ℕ
  pub b : ℕ
  pub c : ℕ
  pub d : ℕ
  pub joined : text ≡ 92 ∷ 117 ∷ a ∷ b ∷ c ∷ d ∷ rest
  pub digits : (hex a < 16) × (hex b < 16) × (hex c < 16) × (hex d < 16)
  pub number : u ≡ hex a * 4096 + hex b * 256 + hex c * 16 + hex d

-- One unit: itself, or an escape.
abbrev pub TakesUnit : List ℕ → ℕ → List ℕ → Type 0
TakesUnit text u rest =
    (IsUnescaped u × (text ≡ u ∷ rest))
    ⊎ (((u ≡ 34) ⊎ (u ≡ 92)) × (text ≡ 92 ∷ u ∷ rest))
    ⊎ TakesHex text u rest

-- Units up to a quote.
pub record TakesUnits (text : List ℕ) (us : List ℕ) (rest : List ℕ) : Type 0 where
  pub end : List ℕ
  pub units : EachTaken TakesUnit text us end
  pub quote : end ≡ 34 ∷ rest

-- ---- what is written

-- A unit of a text: a quote and a backslash after a backslash, any other from 0x20 to 0x7e as itself, the rest escaped.
abbrev pub unit_text : ℕ → List ℕ
unit_text u =
    if (u == 34) || (u == 92) then 92 ∷ u ∷ []
    else if nat_lt 31 u && nat_lt u 127 then u ∷ []
    else escape_text u

-- A text in its quotes.
abbrev pub text_word : List ℕ → List ℕ
text_word us = 34 ∷ (flat_map unit_text us ++ 34 ∷ [])

-- ---- contracts of private helpers
