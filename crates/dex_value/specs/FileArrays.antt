-- Arrays of a file, with the names of its tables.
use Rattle.std.specs.Prelude.{ℕ, ◌⊎◌, List}
use Rattle.dex_base.specs.declared.fault.Fault.{Fault}
use Rattle.program_types.specs.Content.{Value}
use Rattle.tables_rows.specs.Stands.{NameStands}
use Rattle.dex_value.specs.Standing.{ArrayStands}
use Rattle.dex_value.specs.Faults.{ArrayBreaksAt}

-- At this place there is an array, or a fault.
abbrev pub ArrayIsDecided : List ℕ → ℕ → ℕ → Type 0
ArrayIsDecided b off most = ((vs : List Value) × ArrayStands (NameStands b) b off most vs) ⊎ ((e : Fault) × ArrayBreaksAt (NameStands b) b off most e)
