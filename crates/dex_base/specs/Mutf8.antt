-- Strings as lists of UTF-16 units, in MUTF-8: "Dalvik Executable format", sections "MUTF-8 (Modified UTF-8) Encoding" and "string_data_item".
use Rattle.std.specs.Prelude.{◌≡◌, ℕ, ◌+◌, ◌/◌, ◌%◌, ◌<◌, List, [], ◌∷◌, length, sum_by, if◌then◌else◌, ◌==◌, nat_lt}
use Rattle.dex_base.specs.Grammar.{Counted, Ended}
use Rattle.dex_base.specs.Leb128.{Spells, Shortest}

-- The bytes of one unit: one byte from 1 to 127, two bytes for 0 and up to 2047, else three.
abbrev pub unit_bytes : ℕ → List ℕ
unit_bytes u =
    if u == 0 then 192 ∷ 128 ∷ []
    else if nat_lt u 128 then u ∷ []
    else if nat_lt u 2048 then (192 + u / 64) ∷ (128 + u % 64) ∷ []
    else (224 + u / 4096) ∷ (128 + u / 64 % 64) ∷ (128 + u % 64) ∷ []

-- One unit, a surrogate too: each has this one spelling, and there are no forms of four bytes.
abbrev pub SpellsUnit : List ℕ → ℕ → Type 0
SpellsUnit bytes u = (u < 65536) × (bytes ≡ unit_bytes u)

-- A string_data_item: a count of units, the units, a zero.
abbrev pub SpellsText : List ℕ → List ℕ → Type 0
SpellsText = Ended (Counted Spells SpellsUnit)

-- The one that is written: its count is as short as can be.
abbrev pub PacksText : List ℕ → List ℕ → Type 0
PacksText = Ended (Counted (Shortest Spells) SpellsUnit)

-- How many bytes the units take, without count and zero.
abbrev pub mutf8_length : List ℕ → ℕ
mutf8_length units = sum_by (λ u. length (unit_bytes u)) units
