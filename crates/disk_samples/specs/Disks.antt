-- The files of a disk, and what a call does to it.
use Rattle.std.specs.Prelude.{◌≡◌, ◌≤◌, ◌⊎◌, ℕ, true, false, ◌||◌, not, List, [], ◌∷◌, ◌++◌, Result, Ok, Err, vec_capacity}
use Rattle.std.specs.Borrow.{Bor}
use Rattle.dexasm_world.specs.State.{Path, Paths, Files}
use Rattle.dexasm_world.specs.declared.world.Refusal.{Refusal}
use Rattle.dexasm_world.specs.declared.world.Refusal.TheVariants.{Memory}
use Rattle.disk_samples.specs.Logs.{state_of, moments_before, no_files, faults_in, leftovers_in, is_a_name}
use Rattle.disk_samples.specs.declared.change.Change.{Change}
use Rattle.disk_samples.specs.declared.change.Change.TheVariants.{Nothing}
use Rattle.disk_samples.specs.declared.change.Outcome.{Outcome}
use Rattle.disk_samples.specs.declared.change.Outcome.TheVariants.{Done, Failed}
use Rattle.disk_samples.specs.declared.change.Entry.{Entry}
use Rattle.disk_samples.specs.declared.disk.Manner.{Manner}
use Rattle.disk_samples.specs.declared.disk.Disk.{Disk}
use Rattle.disk_samples.specs.declared.happening.Attempt.{Attempt}
use Rattle.disk_samples.specs.declared.happening.Attempt.TheVariants.{Success, Failure, NoSpace}

-- each path is a place of its own, and a file can stand at these names alone
abbrev pub paths_at : List (Bor Path) → Manner → Paths
paths_at names manner = record {
  place = λ p. p;
  is_plain = λ p. true;
  is_closed = λ p. manner.is_closed || not (is_a_name p names);
  is_device = λ p. false;
  is_fixed = λ p. manner.is_fixed;
  is_barred = λ p. false;
}

-- The files now are those that the log has led to, and each moment before now is that before an entry.
abbrev pub files_of : Disk → Files
files_of d = record {
  paths = paths_at d.names.now d.manner;
  now = state_of d.log.items;
  past = moments_before no_files d.log.items;
  faults = faults_in d.log.items;
  leftovers = leftovers_in d.log.items;
}

-- nothing has happened on a disk of these names, and its log has room for so many entries
pub record IsUntouched (names : List (Bor Path)) (manner : Manner) (room : ℕ) (d : Disk) : Type 0 where
  pub log : d.log.items ≡ []
  pub named : d.names.now ≡ names
  pub so : d.manner ≡ manner
  pub free : room ≤ vec_capacity d.log

-- the log has one entry more, and paths lead where they led
pub record Gains (d e : Disk) (entry : Entry) : Type 0 where
  pub log : e.log.items ≡ d.log.items ++ entry ∷ []
  pub names : e.names ≡ d.names
  pub manner : e.manner ≡ d.manner

-- the log is as it was
pub record Stays (d e : Disk) : Type 0 where
  pub log : e.log.items ≡ d.log.items
  pub names : e.names ≡ d.names
  pub manner : e.manner ≡ d.manner

-- a call failed, before its change or after it
pub record Fails (change : Change) (failure : Outcome) (d e : Disk) : Type 0 where
  pub made : Change
  pub which : (made ≡ Nothing) ⊎ (made ≡ change)
  pub gains : Gains d e (record { change = made; outcome = failure })

-- what comes of an attempt at a change
abbrev pub Attempts : Change → Outcome → Disk → Disk → Attempt → Type 0
Attempts change failure d e Success = Gains d e (record { change = change; outcome = Done })
Attempts change failure d e Failure = Fails change failure d e
Attempts change failure d e NoSpace = Stays d e

-- the same, as a call tells it
abbrev pub Calls : {T : Type 0} → Change → Outcome → Disk → Disk → Result T Refusal → Type 0
Calls change failure d e (Ok r) = Gains d e (record { change = change; outcome = Done })
Calls change failure d e (Err refusal) = ((refusal ≡ Memory) × Stays d e) ⊎ Fails change failure d e

-- a call is refused, and nothing is done
abbrev pub TurnsDown : Disk → Disk → Refusal → Type 0
TurnsDown d e refusal = ((refusal ≡ Memory) × Stays d e) ⊎ Gains d e (record { change = Nothing; outcome = Failed })
