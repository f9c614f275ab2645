-- The parts of the data section in a written file, as its map has them.
-- Page: "Dalvik Executable format", "map_list".
use Rattle.std.specs.Prelude.{◌≡◌, ℕ, ◌≤◌, ◌⊎◌}

-- a kind that a written file may have: the header, the six tables, the map, type lists, class data, code, texts, static values
abbrev pub IsWrittenKind : ℕ → Type 0
IsWrittenKind kind =
    (kind ≤ 6) ⊎ ((kind ≡ 0x1000) ⊎ ((kind ≡ 0x1001) ⊎ ((kind ≡ 0x2000) ⊎ ((kind ≡ 0x2001) ⊎ ((kind ≡ 0x2002) ⊎ (kind ≡ 0x2005))))))
