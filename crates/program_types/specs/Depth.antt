-- How deep a value is.
-- Page: "Dalvik Executable format", "encoded_value encoding": VALUE_ARRAY, whose values may be arrays again.
use Rattle.std.specs.Prelude.{ℕ, suc, max}
use Rattle.program_types.specs.Content.{Value, Array, Values, no_values, more_values}

-- An array is one deeper than the deepest value in it, so that an empty one has depth 1. Every other value has depth 0.
abbrev mutual
  pub depth : Value → ℕ
  depth (Array vs) = suc (greatest_depth vs)
  depth _ = 0

  pub greatest_depth : Values → ℕ
  greatest_depth no_values = 0
  greatest_depth (more_values v vs) = max (depth v) (greatest_depth vs)

-- the deepest that a static value may be (ours)
abbrev pub most_depth : ℕ
most_depth = 64
