-- The kind of file of a name.
use Rattle.std.specs.Prelude.{◌≡◌, ◌⊎◌, ◌<◌, ℕ, true, false, List, Some, None, ⊤, Result, Ok, Err}
use Rattle.dexasm_world.specs.State.{Path, Files, place_of}
use Rattle.dexasm_world.specs.Safe.{part_path, name_count, target_of, IsTaken}
use Rattle.dexasm_world.specs.declared.world.Refusal.{Refusal}
use Rattle.dexasm_world.specs.declared.world.Refusal.TheVariants.{Memory}

-- a refusal has this cause, unless memory ran out
abbrev pub RefusedFor : Refusal → Type 0 → Type 0
RefusedFor Memory Cause = ⊤
RefusedFor _ Cause = Cause

-- the system denies access to a place, or reading or writing of the file there
abbrev pub IsBarredAt : Files → Path → Type 0
IsBarredAt f place = (p : Path) × (place_of f p ≡ place) × (f.paths.is_barred p ≡ true)

-- likewise for the file that a path resolves to
abbrev pub IsBarred : Files → Path → Type 0
IsBarred f path = IsBarredAt f (place_of f path)

-- there is nothing at the path's end, or the system denies reading it
abbrev pub CantBeRead : Files → Path → Type 0
CantBeRead f path = (f.now.stands (place_of f path) ≡ None) ⊎ IsBarred f path

-- these bytes are what the file at the path's end holds, where that is no device
abbrev pub IsHeld : Files → Path → List ℕ → Type 0
IsHeld f path bytes = f.paths.is_device (place_of f path) ≡ false → (n : ℕ) × (f.now.stands (place_of f path) ≡ Some n) × (bytes ≡ (f.now.file n).bytes)

-- so has a failure
abbrev pub Caused : {T : Type 0} → Result T Refusal → Type 0 → Type 0
Caused (Ok r) Cause = ⊤
Caused (Err refusal) Cause = RefusedFor refusal Cause

-- each name of a file beside a path is taken
abbrev pub NoneIsFree : Files → Path → Type 0
NoneIsFree f path = (n : ℕ) → n < name_count → IsTaken f (part_path path n)

-- the files failed, or access to the file that OUT resolves to is denied, or no name beside it is free
abbrev pub CauseAt : Path → Files → Files → Type 0
CauseAt out f g = (f.faults < g.faults) ⊎ IsBarred f out ⊎ NoneIsFree f (target_of f out)

-- a call that failed on its way to OUT has such a cause
abbrev pub HasCauseAt : {T : Type 0} → Path → Files → Files → Result T Refusal → Type 0
HasCauseAt out f g result = Caused result (CauseAt out f g)
