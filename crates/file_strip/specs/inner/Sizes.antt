-- How many bytes kept rows take at most, with their items.
-- Page: "Dalvik Executable format", "string_id_item" and "proto_id_item".
use Rattle.std.specs.Prelude.{ℕ, List, slice_index, take}
use Rattle.file_layout.specs.Sections.{wide_all}
use Rattle.file_limits.specs.inner.Sum.{IsSum}
use Rattle.program_types.specs.Key.{Key}

-- The kept ones of the first n rows, by these numbers, take so much, by W.
abbrev pub IsFirstSum : (Key → ℕ) → List ℕ → List Key → ℕ → ℕ → Type 0
IsFirstSum W numbers table n sum = IsSum sum (wide_all W (take (slice_index numbers n) table))
