-- How many values an array can have: its count is a uleb128, so it has 32 bits.
-- Page: "Dalvik Executable format", "encoded_array format": size.
use Rattle.std.specs.Prelude.{⊤, ◌<◌, ◌^◌, List, length}
use Rattle.program_types.specs.Content.{Value, Array, Values, no_values, more_values, values}
use Rattle.dex_value.specs.Spelling.{count_of}

-- Of each array in a value, or in values, the count has 32 bits.
abbrev mutual
  pub CountsFit : Value → Type 0
  CountsFit (Array vs) = (count_of vs < 2 ^ 32) × AllCountsFit vs
  CountsFit _ = ⊤

  pub AllCountsFit : Values → Type 0
  AllCountsFit no_values = ⊤
  AllCountsFit (more_values v vs) = CountsFit v × AllCountsFit vs

-- In an encoded_array its own count has 32 bits too.
pub record ArrayFits (vs : List Value) : Type 0 where
  pub own : length vs < 2 ^ 32
  pub inner : AllCountsFit (values vs)
