-- Arrays in the fewest bytes: values have one encoding.
-- Page: "Dalvik Executable format", "encoded_array format".
use Rattle.std.specs.Prelude.{◌≡◌, ℕ, List}
use Rattle.dex_base.specs.Fields.{AreBytes}
use Rattle.dex_base.specs.Leb128.{Shortest}
use Rattle.dex_value.specs.Spelling.{SpellsArray}
use Rattle.program_types.specs.Content.{Value}
use Rattle.tables_names.specs.Closure.{Five, AreRising, NameRanks}

-- By ranks, where each name has one, values have one shortest spelling in bytes.
abbrev pub ShortestArrayIsOne : Type 0
ShortestArrayIsOne =
    (s : Five) → AreRising s → (a b : List ℕ) (vs : List Value) → AreBytes a → AreBytes b
    → Shortest (SpellsArray (NameRanks s)) a vs → Shortest (SpellsArray (NameRanks s)) b vs → a ≡ b
