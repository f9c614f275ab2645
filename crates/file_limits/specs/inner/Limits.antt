-- Beside Limits.antt: what no promise reaches.
use Rattle.std.specs.List.{AllByRecursion}
use Rattle.tables_names.specs.Closure.{Five, NameRanks}
use Rattle.program_types.specs.Content.{Code}
use Rattle.program_types.specs.Formed.{IsFormed}
use Rattle.program_types.specs.Mentions.{names_of_code}
use Rattle.program_types.specs.Kinds.{HasIndex}

-- A body is well formed, and the names in it have indices.
pub record BodyIsReady (s : Five) (c : Code) : Type 0 where
  pub formed : IsFormed c
  pub ranked : AllByRecursion (HasIndex (NameRanks s)) (names_of_code c)
