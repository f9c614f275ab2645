-- The names in values.
use Rattle.std.specs.Prelude.{ℕ, ◌<◌, ◌^◌, ⊤}
use Rattle.program_types.specs.Content.{Name, Value, Named, Enum, Array}
use Rattle.tables_names.specs.Closure.{Five, NameRanks}

-- The name has a rank that an index of 32 bits can be.
pub record IsRanked (ranks : Five) (which : Name) : Type 0 where
  pub rank : ℕ
  pub small : rank < 2 ^ 32
  pub stands : NameRanks ranks rank which

-- The value is neither a name nor an array.
abbrev pub IsPlain : Value → Type 0
IsPlain (Named which) = ⊥
IsPlain (Enum constant) = ⊥
IsPlain (Array vs) = ⊥
IsPlain _ = ⊤
