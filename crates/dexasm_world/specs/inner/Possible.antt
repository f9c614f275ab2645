-- For each call there is an outcome that its clauses allow: one that does what the call is for, and one that fails.
use Rattle.std.specs.Prelude.{◌≡◌, ◌≢◌, ◌⊎◌, ◌<◌, ◌≤◌, ℕ, Bool, true, List, [], Some, None, length, take}
use Rattle.dexasm_world.specs.State.{Path, FileState, Files, Passes, place_of}
use Rattle.dexasm_world.specs.inner.Steps.{Same, MadeAs, Wrote, Dressed, Kept, Moved, Removed, Begun}
use Rattle.dexasm_world.specs.inner.FileKinds.{CanReplace}

-- by this step these files can become others, its moments being these
abbrev pub CanBecome : Files → (FileState → Type 0) → (FileState → Type 0) → Type 0
CanBecome f Moment Step = (g : Files) × Passes f g Moment × Step g.now

-- where nothing stands a file is made
abbrev pub CanMake : Type 0
CanMake = (f : Files) (is_private : Bool) (path : Path) (n : ℕ) → f.paths.is_plain path ≡ true → f.now.stands (place_of f path) ≡ None → ((p : Path) → f.now.stands p ≢ Some n)
    → CanBecome f (λ t. Same f.now t ⊎ ((m : ℕ) × (f.paths.is_plain path ≡ true) × MadeAs is_private (place_of f path) m f.now t)) (MadeAs is_private (place_of f path) n f.now)

-- a file is dressed
abbrev pub CanDress : Type 0
CanDress = (f : Files) (n mode : ℕ) → CanBecome f (λ t. Same f.now t ⊎ Dressed n mode f.now t) (Dressed n mode f.now)

-- a front of a piece is written
abbrev pub CanAppend : Type 0
CanAppend = (f : Files) (n k : ℕ) (piece : List ℕ) → k ≤ length piece
    → CanBecome f (λ t. (j : ℕ) × (j ≤ length piece) × Wrote n (take j piece) f.now t) (Wrote n (take k piece) f.now)

-- a file is kept
abbrev pub CanKeep : Type 0
CanKeep = (f : Files) (n : ℕ) → CanBecome f (λ t. Wrote n [] f.now t) (Kept n f.now)

-- a file takes another's place
abbrev pub CanMove : Type 0
CanMove = (f : Files) (from to : Path) → CanReplace f from to
    → CanBecome f (λ t. Same f.now t ⊎ Moved (place_of f from) (place_of f to) f.now t) (Moved (place_of f from) (place_of f to) f.now)

-- a name is taken away
abbrev pub CanRemove : Type 0
CanRemove = (f : Files) (path : Path) → CanBecome f (λ t. Same f.now t ⊎ Removed (place_of f path) f.now t) (Removed (place_of f path) f.now)

-- a file is emptied, or made where nothing stands
abbrev pub CanBegin : Type 0
CanBegin = (f : Files) (path : Path) (n : ℕ)
    → (f.now.stands (place_of f path) ≡ Some n) ⊎ ((f.now.stands (place_of f path) ≡ None) × ((p : Path) → f.now.stands p ≢ Some n))
    → CanBecome f (λ t. Same f.now t ⊎ ((m : ℕ) × Begun (place_of f path) m f.now t)) (Begun (place_of f path) n f.now)

-- a call fails and does nothing
abbrev pub CanFail : Type 0
CanFail = (f : Files) → (g : Files) × Passes f g (Same f.now) × (f.faults < g.faults) × (f.leftovers < g.leftovers)
