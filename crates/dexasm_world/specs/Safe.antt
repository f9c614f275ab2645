-- The delivery of the output to OUT.
use Rattle.std.specs.Prelude.{◌≡◌, ◌≢◌, ◌⊎◌, ◌<◌, ℕ, true, false, List, [], ◌++◌, codes, Some, None, IsSome, if◌then◌else◌, Result, Ok, Err}
use Rattle.std.specs.Fmt.{decimal}
use Rattle.dexasm_world.specs.State.{Path, FileState, Files, IsThere, place_of}
use Rattle.dexasm_world.specs.Steps.{private_mode}
use Rattle.dexasm_world.specs.declared.world.Refusal.{Refusal}

-- the path of a file beside another: PATH.N.part
abbrev pub part_path : Path → ℕ → Path
part_path path n = path ++ codes "." ++ decimal n ++ codes ".part"

-- so many names of files beside a path are tried
abbrev pub name_count : ℕ
name_count = 4294967295

-- the place beside which the output is written: OUT itself, or the target if OUT is a link
abbrev pub target_of : Files → Path → Path
target_of f out = if f.paths.is_plain out then out else place_of f out

-- the place of a file beside OUT, or beside the target of a link OUT, where there was nothing, not even a link
pub record IsPartPlace (f : Files) (out place : Path) : Type 0 where
  pub number : ℕ
  pub is : place ≡ place_of f (part_path (target_of f out) number)
  pub plain : f.paths.is_plain (part_path (target_of f out) number) ≡ true
  pub free : f.now.stands place ≡ None

-- the file that stood at OUT, if there was one, is as it was
abbrev pub KeepsFile : Path → FileState → FileState → Type 0
KeepsFile out s t = (n : ℕ) → s.stands out ≡ Some n → t.file n ≡ s.file n

-- OUT holds what it held
pub record IsAsBefore (out : Path) (s t : FileState) : Type 0 where
  pub name : t.stands out ≡ s.stands out
  pub file : KeepsFile out s t

-- the complete output is at a place; if OUT held something, it has that mode, and the disk has it
pub record HasAnswer (out : Path) (answer : List ℕ) (s : FileState) (place : Path) (t : FileState) : Type 0 where
  pub number : ℕ
  pub here : t.stands place ≡ Some number
  pub bytes : (t.file number).bytes ≡ answer
  pub mode : (n : ℕ) → s.stands out ≡ Some n → (t.file number).mode ≡ (s.file n).mode
  pub kept : IsSome (s.stands out) → (t.file number).kept ≡ true

-- OUT holds what it held, or the complete output
abbrev pub IsWholeAt : Path → List ℕ → FileState → FileState → Type 0
IsWholeAt out answer s t = IsAsBefore out s t ⊎ HasAnswer out answer s out t

-- there is something, or a link
abbrev pub IsTaken : Files → Path → Type 0
IsTaken f path = (f.paths.is_plain path ≡ false) ⊎ IsSome (f.now.stands (place_of f path))

-- if a file stood at OUT, one beside it has its mode, or is private and holds nothing yet
abbrev pub IsNarrow : Path → Path → FileState → FileState → Type 0
IsNarrow out place s t = (k m : ℕ) → t.stands place ≡ Some k → s.stands out ≡ Some m
    → (((t.file k).bytes ≡ []) × ((t.file k).mode ≡ private_mode)) ⊎ ((t.file k).mode ≡ (s.file m).mode)

-- A new file can be made beside OUT: OUT is a file or nothing, and no link to nothing, and its folder takes a file of the first part name that
-- is free.
pub record HasSpaceBeside (f : Files) (out : Path) : Type 0 where
  pub no_device : f.paths.is_device (place_of f out) ≡ false
  pub resolves : (f.paths.is_plain out ≡ true) ⊎ IsSome (f.now.stands (place_of f out))
  pub takes : (n : ℕ) → n < name_count → ((k : ℕ) → k < n → IsTaken f (part_path (target_of f out) k)) → f.paths.is_closed (part_path (target_of f out) n) ≡ false

-- no other name is one of the file at a place
abbrev pub IsAlone : Path → FileState → Type 0
IsAlone place s = (n : ℕ) (p : Path) → s.stands place ≡ Some n → s.stands p ≡ Some n → p ≡ place

-- and it can be put in OUT's place: OUT is a file with one name, or nothing, and the system lets it go
pub record CanGive (f : Files) (out : Path) : Type 0 where
  pub room : HasSpaceBeside f out
  pub free : f.paths.is_fixed (place_of f out) ≡ false
  pub alone : IsAlone (place_of f out) f.now

-- A moment of the delivery, since f, of this output to OUT.
pub record IsSafe (f : Files) (out : Path) (answer : List ℕ) (t : FileState) : Type 0 where
  -- No other name is touched, but for free ones beside OUT.
  pub names : (p : Path) → p ≢ place_of f out → ¬ IsPartPlace f out p → t.stands p ≡ f.now.stands p
  -- No other file that was there is touched.
  pub files : (n : ℕ) → IsThere f.now n → f.now.stands (place_of f out) ≢ Some n → t.file n ≡ f.now.file n
  -- Nothing is lost: OUT holds what it held, or the complete output, or the complete output is beside it.
  pub never_lost : HasSpaceBeside f out → IsWholeAt (place_of f out) answer f.now t
      ⊎ ((p : Path) × IsPartPlace f out p × HasAnswer (place_of f out) answer f.now p t)
  -- And where OUT can be replaced, it is never in between, and what it gives way to leaves it as it was.
  pub whole : CanGive f out → IsWholeAt (place_of f out) answer f.now t
  pub old : CanGive f out → KeepsFile (place_of f out) f.now t
  -- A file beside OUT is never open to more readers than OUT was.
  pub narrow : (p : Path) → IsPartPlace f out p → IsNarrow (place_of f out) p f.now t

-- The output has reached OUT.
pub record IsDelivered (f : Files) (out : Path) (answer : List ℕ) (t : FileState) : Type 0 where
  pub number : ℕ
  pub here : t.stands (place_of f out) ≡ Some number
  pub bytes : (t.file number).bytes ≡ answer
  pub mode : (n : ℕ) → f.now.stands (place_of f out) ≡ Some n → (t.file number).mode ≡ (f.now.file n).mode
  pub kept : HasSpaceBeside f out → IsSome (f.now.stands (place_of f out)) → (t.file number).kept ≡ true
  -- Names of one file stay names of one file.
  pub together : (n : ℕ) (p : Path) → f.now.stands (place_of f out) ≡ Some n → f.now.stands p ≡ Some n → t.stands p ≡ t.stands (place_of f out)
  -- Where OUT could be replaced, nothing is left beside it.
  pub clean : CanGive f out → (p : Path) → p ≢ place_of f out → t.stands p ≡ f.now.stands p

-- each name but OUT's is as it was
abbrev pub IsClean : Files → Path → FileState → Type 0
IsClean f out t = (p : Path) → p ≢ place_of f out → t.stands p ≡ f.now.stands p

-- nothing is left beside OUT, or a call failed that may have left something
abbrev pub IsTidy : Files → Path → Files → Type 0
IsTidy f out g = IsClean f out g.now ⊎ (f.leftovers < g.leftovers)

-- the complete output is beside an OUT that cannot be replaced, and nothing else is left there
pub record StandsBeside (f : Files) (out : Path) (answer : List ℕ) (t : FileState) : Type 0 where
  pub place : Path
  pub part : IsPartPlace f out place
  pub has : HasAnswer (place_of f out) answer f.now place t
  pub fixed : CanGive f out → ⊥
  pub clean : (p : Path) → p ≢ place_of f out → p ≢ place → t.stands p ≡ f.now.stands p

-- The output has not arrived, and nothing is left of it beside OUT, unless a call failed that was to remove it, or OUT cannot be replaced.
abbrev pub IsAbandoned : Files → Path → List ℕ → Files → Type 0
IsAbandoned f out answer g = IsTidy f out g ⊎ StandsBeside f out answer g.now

-- what is left beside OUT
abbrev pub Leaves : {T : Type 0} → Files → Path → List ℕ → Files → Result T Refusal → Type 0
Leaves f out answer g (Ok r) = IsTidy f out g
Leaves f out answer g (Err refusal) = IsAbandoned f out answer g
