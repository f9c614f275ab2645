-- Beside Texts.antt: what no promise reaches.
use Rattle.std.specs.Prelude.{◌≡◌, ℕ, ◌+◌, ◌*◌, ◌<◌, ◌≤◌, ◌⊎◌, List, length, slice_index}
pub use Rattle.program_types.specs.Written.{glyph, escape_text}
use Rattle.listing_words.specs.Texts.{IsUnescaped, hex}

-- The escape at the front, byte by byte: a backslash, a `u`, and four hexadecimal digits.
abbrev pub HasHex : List ℕ → ℕ → Type 0
HasHex text u =
    (6 ≤ length text) × (slice_index text 0 ≡ 92) × (slice_index text 1 ≡ 117)
    × (hex (slice_index text 2) < 16) × (hex (slice_index text 3) < 16) × (hex (slice_index text 4) < 16) × (hex (slice_index text 5) < 16)
    × (u ≡ hex (slice_index text 2) * 4096 + hex (slice_index text 3) * 256 + hex (slice_index text 4) * 16 + hex (slice_index text 5))

-- The unit at the front, byte by byte, and how many bytes it takes.
abbrev pub HasQuotedUnit : List ℕ → ℕ → ℕ → Type 0
HasQuotedUnit text u len =
    (IsUnescaped u × (len ≡ 1) × (1 ≤ length text) × (slice_index text 0 ≡ u))
    ⊎ (((u ≡ 34) ⊎ (u ≡ 92)) × (len ≡ 2) × (2 ≤ length text) × (slice_index text 0 ≡ 92) × (slice_index text 1 ≡ u))
    ⊎ ((len ≡ 6) × HasHex text u)
