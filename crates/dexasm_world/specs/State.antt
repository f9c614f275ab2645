-- What files there are, at a moment.
use Rattle.std.specs.Prelude.{◌≡◌, ◌≤◌, ℕ, Bool, List, [], ◌∷◌, ◌++◌, Option, Some}
use Rattle.std.specs.List.{All}

-- A path or a place, as its text. A place is a name in a folder: the one path to it that has no link, `.` or `..` in it.
abbrev pub Path : Type 0
Path = List ℕ

-- what a file holds, its mode, and whether the disk has it, so that it outlasts a power failure
pub record Stored : Type 0 where
  pub bytes : List ℕ
  pub mode : ℕ
  pub kept : Bool

-- which file is at a place, by a number, and what each file holds
pub record FileState : Type 0 where
  pub stands : Path → Option ℕ
  pub file : ℕ → Stored

-- a file is at some place
abbrev pub IsThere : FileState → ℕ → Type 0
IsThere s n = (p : Path) × (s.stands p ≡ Some n)

-- what stays as it is while a program runs
pub record Paths : Type 0 where
  -- the place that a path resolves to, through links
  pub place : Path → Path
  -- the path is no link
  pub is_plain : Path → Bool
  -- the folder takes no new file of this path
  pub is_closed : Path → Bool
  -- the file at this place is a device, a pipe or a folder, so that it can only be written in place
  pub is_device : Path → Bool
  -- the file at this place can be written, and cannot be replaced
  pub is_fixed : Path → Bool
  -- the system denies access to the file that the path resolves to
  pub is_barred : Path → Bool

-- the files as a run sees them: where paths lead, what there is now, each moment before now, the first one first, how often a call on
-- them has failed for a reason that isn't modelled here, as a full disk, and how often one has failed that may have left a name there: a file
-- wasn't made, or a name wasn't taken away
pub record Files : Type 0 where
  pub paths : Paths
  pub now : FileState
  pub past : List FileState
  pub faults : ℕ
  pub leftovers : ℕ

-- the place that a path resolves to
abbrev pub place_of : Files → Path → Path
place_of files path = files.paths.place path

-- A call went from old to new: paths resolve as before, and each moment since, the new one too, has P.
pub record Passes (old new : Files) (P : FileState → Type 0) : Type 0 where
  pub same_paths : new.paths ≡ old.paths
  pub moments : List FileState
  pub goes_on : new.past ++ new.now ∷ [] ≡ old.past ++ old.now ∷ moments
  pub each : All P moments
  pub last : P new.now
  pub later : old.faults ≤ new.faults
  pub no_fewer : old.leftovers ≤ new.leftovers
