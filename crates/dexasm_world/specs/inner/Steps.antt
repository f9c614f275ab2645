-- Beside Steps.antt: what no promise reaches.
use Rattle.std.specs.Prelude.{◌≡◌, ◌≢◌, ◌⊎◌, ℕ, Bool, true, List, [], ◌++◌, Some, None}
use Rattle.dexasm_world.specs.State.{Path, FileState}
use Rattle.dexasm_world.specs.Steps.{private_mode}

-- nothing is changed
pub record Same (s t : FileState) : Type 0 where
  pub names : (p : Path) → t.stands p ≡ s.stands p
  pub files : (m : ℕ) → t.file m ≡ s.file m

-- each name stands for what it stood for, and each file but this one is as it was
pub record TouchesOnly (n : ℕ) (s t : FileState) : Type 0 where
  pub names : (p : Path) → t.stands p ≡ s.stands p
  pub files : (m : ℕ) → m ≢ n → t.file m ≡ s.file m

-- this file has these bytes more
pub record Wrote (n : ℕ) (piece : List ℕ) (s t : FileState) : Type 0 where
  pub only : TouchesOnly n s t
  pub bytes : (t.file n).bytes ≡ (s.file n).bytes ++ piece
  pub mode : (t.file n).mode ≡ (s.file n).mode

-- this file is empty
pub record Emptied (n : ℕ) (s t : FileState) : Type 0 where
  pub only : TouchesOnly n s t
  pub bytes : (t.file n).bytes ≡ []
  pub mode : (t.file n).mode ≡ (s.file n).mode

-- this file has this mode
pub record Dressed (n mode : ℕ) (s t : FileState) : Type 0 where
  pub only : TouchesOnly n s t
  pub bytes : (t.file n).bytes ≡ (s.file n).bytes
  pub has : (t.file n).mode ≡ mode

-- the disk has this file
pub record Kept (n : ℕ) (s t : FileState) : Type 0 where
  pub only : TouchesOnly n s t
  pub bytes : (t.file n).bytes ≡ (s.file n).bytes
  pub mode : (t.file n).mode ≡ (s.file n).mode
  pub kept : (t.file n).kept ≡ true

-- an empty file, with a number of its own, stands where nothing stood
pub record Made (place : Path) (n : ℕ) (s t : FileState) : Type 0 where
  pub free : s.stands place ≡ None
  pub own : (p : Path) → s.stands p ≢ Some n
  pub here : t.stands place ≡ Some n
  pub names : (p : Path) → p ≢ place → t.stands p ≡ s.stands p
  pub bytes : (t.file n).bytes ≡ []
  pub files : (m : ℕ) → m ≢ n → t.file m ≡ s.file m

-- a file is made, and if it is to be private, so it is made
pub record MadeAs (is_private : Bool) (place : Path) (n : ℕ) (s t : FileState) : Type 0 where
  pub made : Made place n s t
  pub mode : is_private ≡ true → (t.file n).mode ≡ private_mode

-- what stood at one place stands at the other, in place of what stood there
pub record Moved (from to : Path) (s t : FileState) : Type 0 where
  pub here : t.stands to ≡ s.stands from
  pub gone : t.stands from ≡ None
  pub names : (p : Path) → p ≢ from → p ≢ to → t.stands p ≡ s.stands p
  pub files : (m : ℕ) → t.file m ≡ s.file m

-- nothing stands at the place
pub record Removed (place : Path) (s t : FileState) : Type 0 where
  pub gone : t.stands place ≡ None
  pub names : (p : Path) → p ≢ place → t.stands p ≡ s.stands p
  pub files : (m : ℕ) → t.file m ≡ s.file m

-- what stands at the place is empty, or an empty file is made there
abbrev pub Begun : Path → ℕ → FileState → FileState → Type 0
Begun place n s t = ((s.stands place ≡ Some n) × Emptied n s t) ⊎ Made place n s t
