-- Beside Told.antt: what no promise reaches.
use Rattle.std.specs.Prelude.{◌≡◌, ◌≢◌, ◌⊎◌, ℕ, Bool, true, List, ◌++◌, Option}
use Rattle.std.specs.Io.KnownBytes.{Keeps}
use Rattle.clap.specs.declared.error.kind.ErrorKind.{ErrorKind}
use Rattle.clap.specs.declared.error.kind.ErrorKind.TheVariants.{DisplayHelp, DisplayVersion, OutOfMemory}
use Rattle.dexasm_run.specs.declared.error.RunFault.{RunFault}
use Rattle.dexasm_run.specs.declared.error.RunFault.TheVariants.{Memory}
use Rattle.dexasm_command.specs.Reported.{IsMore, Shows, ReportsFault}

-- the second line for a terminal is added to the text
pub record AddsMore (fault : RunFault) (old new : List ℕ) : Type 0 where
  pub more : List ℕ
  pub is : IsMore true fault more
  pub added : new ≡ old ++ more

-- what comes of words that are no job: help or the version is shown, or the words are wrong, or memory ran out
abbrev pub Misuses : Bool → ErrorKind → Option (List ℕ) → Option (List ℕ) → Bool → Option (List ℕ) → Option (List ℕ) → Bool → ℕ → Type 0
Misuses terminal kind held holds failed errors_before errors_after errors_failed status =
    (((kind ≡ DisplayHelp) ⊎ (kind ≡ DisplayVersion)) × (text : List ℕ) × Shows terminal held holds failed errors_before errors_after errors_failed text status)
    ⊎ ((kind ≢ DisplayHelp) × (kind ≢ DisplayVersion) × (kind ≢ OutOfMemory) × Keeps held holds × (status ≡ 2))
    ⊎ (Keeps held holds × ReportsFault terminal Memory errors_before errors_after errors_failed status)
