-- How many bytes encoded values take at most, the plain sum with five bytes for each count.
use Rattle.std.specs.Prelude.{ℕ, ◌+◌, List}
use Rattle.program_types.specs.Content.{Value, Array, Values, no_values, more_values, values}

-- An array takes its head, a count and its values; any other value a head and at most eight bytes.
abbrev mutual
  pub wide_value : Value → ℕ
  wide_value (Array vs) = 6 + wide_values vs
  wide_value _ = 9

  pub wide_values : Values → ℕ
  wide_values no_values = 0
  wide_values (more_values v vs) = wide_value v + wide_values vs

-- An encoded_array: a count and its values.
abbrev pub wide_array : List Value → ℕ
wide_array vs = 5 + wide_values (values vs)
