-- The steps of a result on its way to OUT.
use Rattle.std.specs.Prelude.{◌≡◌, ◌≢◌, ◌⊎◌, ◌<◌, ℕ, Bool, true, List, ◌++◌, Option, Some, None, IsSome, IfSome, Result, Ok, Err}
use Rattle.std.specs.Option.{IsSomeAnd}
use Rattle.dexasm_world.specs.State.{Path, FileState, Files, IsThere, place_of}
use Rattle.dexasm_world.specs.inner.Steps.{TouchesOnly}
use Rattle.dexasm_world.specs.Safe.{KeepsFile, HasAnswer, IsWholeAt, IsNarrow}
use Rattle.dexasm_world.specs.declared.world.Dress.{Dress}
use Rattle.dexasm_world.specs.declared.world.Refusal.{Refusal}

-- nothing is touched but what this place leads to, and what stands there keeps its place
pub record Overwrites (place : Path) (s t : FileState) : Type 0 where
  pub names : (p : Path) → p ≢ place → t.stands p ≡ s.stands p
  pub stays : (n : ℕ) → s.stands place ≡ Some n → t.stands place ≡ Some n
  pub files : (n : ℕ) → IsThere s n → s.stands place ≢ Some n → t.file n ≡ s.file n

-- these bytes stand at a place, in the mode of what stood there, and the disk has them if it is to
pub record HoldsBytes (place : Path) (bytes : List ℕ) (keeps : Bool) (s t : FileState) : Type 0 where
  pub number : ℕ
  pub here : t.stands place ≡ Some number
  pub is : (t.file number).bytes ≡ bytes
  pub mode : (n : ℕ) → s.stands place ≡ Some n → (t.file number).mode ≡ (s.file n).mode
  pub kept : keeps ≡ true → (t.file number).kept ≡ true

-- a file has the bytes and the mode that it had
abbrev pub IsStill : ℕ → FileState → FileState → Type 0
IsStill n s t = ((t.file n).bytes ≡ (s.file n).bytes) × ((t.file n).mode ≡ (s.file n).mode)

-- a file is written to, and where it is to be dressed it is as it was until it has its mode
pub record Fills (n : ℕ) (dress : Option Dress) (s t : FileState) : Type 0 where
  pub only : TouchesOnly n s t
  pub narrow : IfSome dress (λ d. IsStill n s t ⊎ ((t.file n).mode ≡ d.mode))

-- a file has these bytes more, and where it is to be dressed, the mode, and the disk has it
pub record Stores (n : ℕ) (bytes : List ℕ) (dress : Option Dress) (s t : FileState) : Type 0 where
  pub only : TouchesOnly n s t
  pub more : (t.file n).bytes ≡ (s.file n).bytes ++ bytes
  pub mode : IfSome dress (λ d. (t.file n).mode ≡ d.mode)
  pub kept : IsSome dress → (t.file n).kept ≡ true

-- the dress is that of the file at the place, where one is there
abbrev pub Dresses : Path → Option Dress → FileState → Type 0
Dresses place dress s = (n : ℕ) → s.stands place ≡ Some n → IsSomeAnd dress (λ d. d.mode ≡ (s.file n).mode)

-- a file stands beside another place, and nowhere else
pub record HasPartFile (f : Files) (part path : Path) (n : ℕ) : Type 0 where
  pub part_plain : f.paths.is_plain part ≡ true
  pub path_plain : f.paths.is_plain path ≡ true
  pub two : place_of f part ≢ place_of f path
  pub here : f.now.stands (place_of f part) ≡ Some n
  pub only : (p : Path) → f.now.stands p ≡ Some n → p ≡ place_of f part

-- and it has the answer
pub record HasFullPart (f : Files) (part path : Path) (answer : List ℕ) : Type 0 where
  pub number : ℕ
  pub stands : HasPartFile f part path number
  pub bytes : (f.now.file number).bytes ≡ answer
  pub mode : (n : ℕ) → f.now.stands (place_of f path) ≡ Some n → (f.now.file number).mode ≡ (f.now.file n).mode
  pub kept : IsSome (f.now.stands (place_of f path)) → (f.now.file number).kept ≡ true

-- A moment on the way, since s, of an answer that goes by way of the place `part` to the place `out`. Where it goes in one step, OUT is
-- never in between.
pub record Brings (part out : Path) (answer : List ℕ) (InOneStep : Type 0) (s t : FileState) : Type 0 where
  pub names : (p : Path) → p ≢ part → p ≢ out → t.stands p ≡ s.stands p
  pub files : (n : ℕ) → IsThere s n → s.stands part ≢ Some n → s.stands out ≢ Some n → t.file n ≡ s.file n
  pub safe : IsWholeAt out answer s t ⊎ HasAnswer out answer s part t
  pub whole : InOneStep → IsWholeAt out answer s t
  pub old : InOneStep → KeepsFile out s t
  pub narrow : IsNarrow out part s t

-- It has come there. Where it is written in place, the file that stood there still does.
pub record HasBrought (part out : Path) (answer : List ℕ) (InOneStep InPlace : Type 0) (s t : FileState) : Type 0 where
  pub has : HasAnswer out answer s out t
  pub gone : InOneStep → t.stands part ≡ None
  pub stays : InPlace → (n : ℕ) → s.stands out ≡ Some n → t.stands out ≡ Some n

-- nothing stands at a place any more, or a call failed that was to take it away
abbrev pub IsGone : Path → Files → Files → Type 0
IsGone part f g = (g.now.stands part ≡ None) ⊎ (f.leftovers < g.leftovers)

-- What is left at the part's place: nothing, or where the answer can't go in one step and didn't come, the whole answer.
abbrev pub LeavesPart : {T : Type 0} → Path → Path → List ℕ → Type 0 → Files → Files → Result T Refusal → Type 0
LeavesPart part out answer InOneStep f g (Ok r) = IsGone part f g
LeavesPart part out answer InOneStep f g (Err refusal) = IsGone part f g ⊎ (HasAnswer out answer f.now part g.now × (InOneStep → ⊥))
