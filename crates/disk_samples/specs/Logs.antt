-- The files of a disk in memory, by what happened to them.
use Rattle.std.specs.Prelude.{◌≡◌, ℕ, ◌+◌, ◌<◌, ◌≤◌, Bool, true, false, ◌||◌, ◌==◌, List, [], ◌∷◌, ◌++◌, length, Option, Some, None, is_some, if◌then◌else◌, bytes_eq, ⊤}
use Rattle.std.specs.Borrow.{Bor}
use Rattle.dexasm_world.specs.State.{Path, FileState, Stored}
use Rattle.disk_samples.specs.declared.change.Change.{Change}
use Rattle.disk_samples.specs.declared.change.Change.TheVariants.{Nothing, Make, Link, Write, Empty, Dress, Keep, Move, Remove}
use Rattle.disk_samples.specs.declared.change.Outcome.{Outcome}
use Rattle.disk_samples.specs.declared.change.Outcome.TheVariants.{Done, Failed, MayHaveLeft}
use Rattle.disk_samples.specs.declared.change.Entry.{Entry}

-- this stands at a place, and at each other place what stood there
abbrev pub stands_at : Path → Option ℕ → (Path → Option ℕ) → Path → Option ℕ
stands_at place o stands p = if bytes_eq p place then o else stands p

-- a file has this, and each other file what it had
abbrev pub file_at : ℕ → Stored → (ℕ → Stored) → ℕ → Stored
file_at n x file m = if m == n then x else file m

-- no file is there
abbrev pub no_files : FileState
no_files = record { stands = λ p. None; file = λ n. record { bytes = []; mode = 0; kept = false } }

-- the files after a change
abbrev pub step : Change → FileState → FileState
step Nothing s = s
step (Make at n bytes mode) s = record { stands = stands_at at.now (Some n) s.stands; file = file_at n (record { bytes = bytes.items; mode = mode; kept = false }) s.file }
step (Link at n) s = record { stands = stands_at at.now (Some n) s.stands; file = s.file }
step (Write n piece) s = record { stands = s.stands; file = file_at n (record { bytes = (s.file n).bytes ++ piece.items; mode = (s.file n).mode; kept = false }) s.file }
step (Empty n) s = record { stands = s.stands; file = file_at n (record { bytes = []; mode = (s.file n).mode; kept = false }) s.file }
step (Dress n mode) s = record { stands = s.stands; file = file_at n (record { bytes = (s.file n).bytes; mode = mode; kept = (s.file n).kept }) s.file }
step (Keep n) s = record { stands = s.stands; file = file_at n (record { bytes = (s.file n).bytes; mode = (s.file n).mode; kept = true }) s.file }
step (Move from to n) s = record { stands = stands_at from.now None (stands_at to.now (Some n) s.stands); file = s.file }
step (Remove at) s = record { stands = stands_at at.now None s.stands; file = s.file }

-- the files after all these entries
abbrev pub after : FileState → List Entry → FileState
after s [] = s
after s (e ∷ es) = after (step e.change s) es

-- the files before each of these entries
abbrev pub moments_before : FileState → List Entry → List FileState
moments_before s [] = []
moments_before s (e ∷ es) = s ∷ moments_before (step e.change s) es

-- the files that a log has led to
abbrev pub state_of : List Entry → FileState
state_of log = after no_files log

-- a failure counts as one
abbrev pub fault_count : Outcome → ℕ
fault_count Done = 0
fault_count Failed = 1
fault_count MayHaveLeft = 1

-- and here one that may have left a name
abbrev pub leftover_count : Outcome → ℕ
leftover_count Done = 0
leftover_count Failed = 0
leftover_count MayHaveLeft = 1

-- how many calls failed
abbrev pub faults_in : List Entry → ℕ
faults_in [] = 0
faults_in (e ∷ es) = fault_count e.outcome + faults_in es

-- how many failed that may have left a name
abbrev pub leftovers_in : List Entry → ℕ
leftovers_in [] = 0
leftovers_in (e ∷ es) = leftover_count e.outcome + leftovers_in es

-- a path is one of these names
abbrev pub is_a_name : Path → List (Bor Path) → Bool
is_a_name p [] = false
is_a_name p (q ∷ qs) = bytes_eq p q.now || is_a_name p qs

-- one, where it is so
abbrev pub one_if : Bool → ℕ
one_if true = 1
one_if false = 0

-- at how many of these names a file stands
abbrev pub standing : (Path → Option ℕ) → List (Bor Path) → ℕ
standing stands [] = 0
standing stands (q ∷ qs) = one_if (is_some (stands q.now)) + standing stands qs

-- each file that stands anywhere was made before
abbrev pub AreMadeBefore : List Entry → Type 0
AreMadeBefore log = (p : Path) (n : ℕ) → (state_of log).stands p ≡ Some n → n < length log

-- files stand at these names alone
abbrev pub AreAtNames : List (Bor Path) → List Entry → Type 0
AreAtNames names log = (p : Path) (n : ℕ) → (state_of log).stands p ≡ Some n → is_a_name p names ≡ true

-- where a change puts a file, that is one of these names, and the file was made before or now
abbrev pub IsFit : List (Bor Path) → List Entry → Change → Type 0
IsFit names log (Make at n bytes mode) = (is_a_name at.now names ≡ true) × (n ≤ length log)
IsFit names log (Link at n) = (is_a_name at.now names ≡ true) × (n ≤ length log)
IsFit names log (Move from to n) = (is_a_name to.now names ≡ true) × (n ≤ length log)
IsFit names log Nothing = ⊤
IsFit names log (Write n piece) = ⊤
IsFit names log (Empty n) = ⊤
IsFit names log (Dress n mode) = ⊤
IsFit names log (Keep n) = ⊤
IsFit names log (Remove at) = ⊤

-- a file of these bytes and this mode stands at a place
pub record HoldsAt (s : FileState) (place : Path) (bytes : List ℕ) (mode : ℕ) : Type 0 where
  pub number : ℕ
  pub here : s.stands place ≡ Some number
  pub held : (s.file number).bytes ≡ bytes
  pub has : (s.file number).mode ≡ mode
