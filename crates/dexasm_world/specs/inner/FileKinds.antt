-- Beside HasKind.antt: what no promise reaches.
use Rattle.std.specs.Prelude.{◌≡◌, ◌≢◌, ◌⊎◌, ◌<◌, ℕ, true, false, List, Option, Some, None, IsSome, ⊤, Result, Ok, Err}
use Rattle.dexasm_world.specs.State.{Path, FileState, Files, place_of}
use Rattle.dexasm_world.specs.inner.Steps.{Same}
use Rattle.dexasm_world.specs.Safe.{IsTaken}
use Rattle.dexasm_world.specs.declared.world.FileKind.{FileKind}
use Rattle.dexasm_world.specs.declared.world.FileKind.TheVariants.{Link, Alone, Shared, Device}
use Rattle.dexasm_world.specs.declared.world.Refusal.{Refusal}
use Rattle.dexasm_world.specs.declared.world.Refusal.TheVariants.{Missing, Memory}
use Rattle.dexasm_world.specs.declared.world.NotMade.{NotMade}
use Rattle.dexasm_world.specs.declared.world.NotMade.TheVariants.{Taken, Closed, Failed as MakingFailed}
use Rattle.dexasm_world.specs.declared.world.NotReplaced.{NotReplaced}
use Rattle.dexasm_world.specs.declared.world.NotReplaced.TheVariants.{Fixed, Failed as ReplacingFailed}
use Rattle.dexasm_world.specs.FileKinds.{CantBeRead, Caused, NoneIsFree, RefusedFor}

-- a file of this mode is here, and at no other place
pub record StandsAlone (s : FileState) (place : Path) (mode : ℕ) : Type 0 where
  pub number : ℕ
  pub here : s.stands place ≡ Some number
  pub has : (s.file number).mode ≡ mode
  pub only : (p : Path) → s.stands p ≡ Some number → p ≡ place

-- a file of this mode is here, and at another place too
pub record StandsTwice (s : FileState) (place : Path) (mode : ℕ) : Type 0 where
  pub number : ℕ
  pub here : s.stands place ≡ Some number
  pub has : (s.file number).mode ≡ mode
  pub other : Path
  pub there : s.stands other ≡ Some number
  pub two : other ≢ place

-- the file of a name has this kind
abbrev pub HasKind : Files → Path → Result FileKind Refusal → Type 0
HasKind f path (Ok Link) = f.paths.is_plain path ≡ false
HasKind f path (Ok (Alone dress)) = (f.paths.is_plain path ≡ true) × StandsAlone f.now (place_of f path) dress.mode
HasKind f path (Ok (Shared dress)) = (f.paths.is_plain path ≡ true) × StandsTwice f.now (place_of f path) dress.mode
HasKind f path (Ok Device) = (f.paths.is_plain path ≡ true) × (f.paths.is_device (place_of f path) ≡ true)
HasKind f path (Err Missing) = (f.paths.is_plain path ≡ true) × (f.now.stands (place_of f path) ≡ None)
HasKind f path (Err Memory) = ⊤
HasKind f path (Err _) = f.paths.is_barred path ≡ true

-- the path is the text of the place that a link resolves to, and something is there
pub record IsLinkTarget (f : Files) (path target : Path) : Type 0 where
  pub is : target ≡ place_of f path
  pub plain : f.paths.is_plain target ≡ true
  pub same : place_of f target ≡ place_of f path
  pub there : IsSome (f.now.stands (place_of f target))

-- a link resolves to nothing, or to what has no path, as a pipe
abbrev pub IsDangling : Files → Path → Type 0
IsDangling f path = (f.now.stands (place_of f path) ≡ None) ⊎ (f.paths.is_device (place_of f path) ≡ true)

-- a link resolves to this target, whose text `text` reads
abbrev pub LinkResolvesTo : {T : Type 0} → (T → Path) → Files → Path → Result T Refusal → Type 0
LinkResolvesTo text f path (Ok target) = IsLinkTarget f path (text target)
LinkResolvesTo text f path (Err Missing) = IsDangling f path
LinkResolvesTo text f path (Err Memory) = ⊤
LinkResolvesTo text f path (Err _) = f.paths.is_barred path ≡ true

-- a reader has what the file at the path's end holds, and that of a device isn't known
abbrev pub Gives : Files → Path → Option (List ℕ) → Type 0
Gives f path given = f.paths.is_device (place_of f path) ≡ false
    → (n : ℕ) × (f.now.stands (place_of f path) ≡ Some n) × (given ≡ Some (f.now.file n).bytes)

-- the result of opening the file at the path's end for reading: `left` is what a reader has, and `place` its place
abbrev pub Opens : {T : Type 0} → (T → Option (List ℕ)) → (T → Path) → Files → Path → Result T Refusal → Type 0
Opens left place f path (Ok reader) = Gives f path (left reader) × (place reader ≡ place_of f path)
Opens left place f path (Err refusal) = RefusedFor refusal (CantBeRead f path)

-- what failed is the files
abbrev pub HasCause : {T : Type 0} → Files → Files → Result T Refusal → Type 0
HasCause f g result = Caused result (f.faults < g.faults)

-- the files failed, or no name beside the path is free
abbrev pub HasCauseBeside : {T : Type 0} → Path → Files → Files → Result T Refusal → Type 0
HasCauseBeside path f g result = Caused result ((f.faults < g.faults) ⊎ NoneIsFree f path)

-- why no new file was made: where something is there, or the folder takes none, nothing was done, and else maybe
abbrev pub WhyNotMade : {T : Type 0} → Path → Files → Files → Result T NotMade → Type 0
WhyNotMade path f g (Ok r) = ⊤
WhyNotMade path f g (Err Taken) = IsTaken f path × Same f.now g.now
WhyNotMade path f g (Err Closed) = (f.paths.is_closed path ≡ true) × Same f.now g.now
WhyNotMade path f g (Err (MakingFailed refusal)) = RefusedFor refusal (f.faults < g.faults) × (Same f.now g.now ⊎ (f.leftovers < g.leftovers))

-- why a file wasn't replaced: where it keeps its place, nothing was done
abbrev pub WhyNotReplaced : {T : Type 0} → Path → Files → Files → Result T NotReplaced → Type 0
WhyNotReplaced path f g (Ok r) = ⊤
WhyNotReplaced path f g (Err Fixed) = (f.paths.is_fixed (place_of f path) ≡ true) × Same f.now g.now
WhyNotReplaced path f g (Err (ReplacingFailed refusal)) = RefusedFor refusal (f.faults < g.faults)

-- two names, no links, for two files or for one and nothing
pub record CanReplace (f : Files) (from to : Path) : Type 0 where
  pub from_plain : f.paths.is_plain from ≡ true
  pub to_plain : f.paths.is_plain to ≡ true
  pub two : f.now.stands (place_of f from) ≢ f.now.stands (place_of f to)
