-- How numbers are written, and names.
-- Page: docs/LISTING.md, "What a word can be".
use Rattle.std.specs.Prelude.{ℕ, zero, suc, ◌/◌, ◌%◌, nat_lt, if◌then◌else◌, List, [], ◌∷◌, ◌++◌}
use Rattle.std.specs.List.{flat_map}
-- Names, as `{}` shows them.
pub use Rattle.program_types.specs.Written.{name_unit, name_text, proto_units, field_units, method_units}
use Rattle.listing_words.specs.Texts.{glyph}

-- The last hexadecimal digits of a number, so many of them.
abbrev pub hex_digits : ℕ → ℕ → List ℕ
hex_digits zero n = []
hex_digits (suc width) n = hex_digits width (n / 16) ++ glyph (n % 16) ∷ []

-- How many hexadecimal digits a number of 32 bits has without leading zeros.
abbrev pub hex_width : ℕ → ℕ
hex_width n =
    if nat_lt n 16 then 1 else (
    if nat_lt n 256 then 2 else (
    if nat_lt n 4096 then 3 else (
    if nat_lt n 65536 then 4 else (
    if nat_lt n 1048576 then 5 else (
    if nat_lt n 16777216 then 6 else (
    if nat_lt n 268435456 then 7 else 8))))))

-- Flags: `0x` and their hexadecimal digits without leading zeros.
abbrev pub flags_text : ℕ → List ℕ
flags_text n = 48 ∷ 120 ∷ hex_digits (hex_width n) n

-- The bytes of an array: two digits for each.
abbrev pub elements_text : List ℕ → List ℕ
elements_text bytes = flat_map (hex_digits 2) bytes
