-- The code of a file, with the names that stand in it.
-- Page: "Dalvik Executable format", "code_item".
use Rattle.std.specs.Prelude.{ℕ, ◌⊎◌, List}
use Rattle.std.specs.List.{AllByRecursion}
use Rattle.dex_base.specs.declared.fault.Fault.{Fault}
use Rattle.program_types.specs.Content.{Code}
use Rattle.program_types.specs.Mentions.{names_of_code}
use Rattle.tables_rows.specs.Names.{Names, NameIsAt}
use Rattle.tables_rows.specs.Stands.{NameStands}
use Rattle.tables_rows.specs.Stands.{HasRow}
use Rattle.code_read.specs.Code.{CodeStands}
use Rattle.code_read.specs.Faults.{CodeBreaks, CodeOverruns}

-- With these names a code stands at this place, or a fault does.
abbrev pub CodeIsDecided : Names → List ℕ → ℕ → Type 0
CodeIsDecided names b off = ((c : Code) × CodeStands (NameIsAt names) b off c) ⊎ (((e : Fault) × CodeBreaks (NameIsAt names) b off e) ⊎ ((e : Fault) × CodeOverruns (NameIsAt names) b off e))

-- What the code of a file names has rows.
abbrev pub CodesHaveRows : List ℕ → Type 0
CodesHaveRows b = (off : ℕ) (c : Code) → CodeStands (NameStands b) b off c → AllByRecursion (HasRow b) (names_of_code c)
