-- Static values as items.
-- Page: "Dalvik Executable format", "encoded_array_item".
use Rattle.std.specs.Prelude.{ℕ, List}
use Rattle.dex_base.specs.Fields.{AreBytes}
use Rattle.dex_base.specs.Leb128.{Shortest}
use Rattle.dex_value.specs.Spelling.{SpellsArray}
use Rattle.program_types.specs.Content.{Value}
use Rattle.tables_names.specs.Closure.{Five, NameRanks}

-- The bytes are a shortest spelling of the values, of which no other is one.
pub record WritesArray (s : Five) (bytes : List ℕ) (vs : List Value) : Type 0 where
  pub packs : Shortest (SpellsArray (NameRanks s)) bytes vs
  pub are : AreBytes bytes
