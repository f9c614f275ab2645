-- Arrays of values of a file whose names have numbers, by which they are encoded again.
-- Page: "Dalvik Executable format", "encoded_value encoding" and "encoded_array format".
use Rattle.std.specs.Prelude.{◌≡◌, ℕ, List, [], ◌∷◌}
use Rattle.dex_base.specs.Leb128.{Shortest}
use Rattle.dex_value.specs.Spelling.{SpellsArray}
use Rattle.dex_value.specs.Standing.{ArrayStands}
use Rattle.program_types.specs.Content.{Name, Value, values}
use Rattle.program_types.specs.Mentions.{AllNamesHold}
use Rattle.tables_names.specs.Closure.{Five, AreRising, NameRanks}
use Rattle.file_renumber.specs.inner.Marked.{Columns}
use Rattle.file_renumber.specs.inner.Numbers.{Carries}
use Rattle.tables_rows.specs.Stands.{NameStands}

-- An array of these values stands at this offset, and by these numbers each name in them has its rank among names s.
pub record IsCarriedArray (b : List ℕ) (off : ℕ) (numbers : Columns) (s : Five) (vs : List Value) : Type 0 where
  pub most : ℕ
  pub stands : ArrayStands (NameStands b) b off most vs
  pub rise : AreRising s
  pub carried : AllNamesHold (Carries (NameStands b) (NameRanks s) numbers) (values vs)

-- The item of these values by this naming, in the fewest bytes: none where there is no value.
abbrev pub IsItemOf : (ℕ → Name → Type 0) → List ℕ → List Value → Type 0
IsItemOf N bytes [] = bytes ≡ []
IsItemOf N bytes (v ∷ vs) = Shortest (SpellsArray N) bytes (v ∷ vs)
