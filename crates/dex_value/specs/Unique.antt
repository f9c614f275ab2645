-- When a spelling has one value.
use Rattle.std.specs.Prelude.{◌≡◌, ℕ}
use Rattle.program_types.specs.Content.{Name}
use Rattle.dex_value.specs.Spelling.{value_type_of}

-- In each table an index denotes one name.
abbrev pub IsFunctionalByType : (ℕ → Name → Type 0) → Type 0
IsFunctionalByType N = (i : ℕ) (m n : Name) → value_type_of m ≡ value_type_of n → N i m → N i n → m ≡ n
