-- The report of a failure.
use Rattle.std.specs.Prelude.{◌≡◌, ◌⊎◌, ℕ, Bool, true, false, List, [], ◌∷◌, ◌++◌, Option, codes, take, Result, Ok, Err}
use Rattle.std.specs.Io.KnownBytes.{Appends, Keeps}
use Rattle.dex_base.specs.Fault.{fault_sentence}
use Rattle.dexasm_run.specs.Status.{error_line, exit_status}
use Rattle.dexasm_run.specs.declared.error.RunFault.{RunFault}
use Rattle.dexasm_run.specs.declared.error.RunFault.TheVariants.{Refused, Input, Output, Memory}

-- a line has been put, or a front of it where the sink failed
abbrev pub PutsLine : Option (List ℕ) → Option (List ℕ) → Bool → List ℕ → Type 0
PutsLine held holds failed text = Appends held holds text ⊎ ((failed ≡ true) × (n : ℕ) × Appends held holds (take n text))

-- a line of a terminal's, below the line of a failure
abbrev pub more_line : List ℕ → List ℕ
more_line errors_before = codes "  " ++ errors_before ++ 10 ∷ []

-- The second line of a failure, if standard error is a terminal: for a refusal the fault's sentence, for reading and writing the
-- system's error, if it has one. If it is no terminal, there is no second line.
abbrev pub IsMore : Bool → RunFault → List ℕ → Type 0
IsMore false fault more = more ≡ []
IsMore true (Refused fault) more = more ≡ more_line (fault_sentence fault.code)
IsMore true Input more = (more ≡ []) ⊎ ((errors_before : List ℕ) × (more ≡ more_line errors_before))
IsMore true Output more = (more ≡ []) ⊎ ((errors_before : List ℕ) × (more ≡ more_line errors_before))
IsMore true Memory more = more ≡ []

-- the line of a failure, and the second line for a terminal
pub record IsText (terminal : Bool) (fault : RunFault) (text : List ℕ) : Type 0 where
  pub more : List ℕ
  pub is : IsMore terminal fault more
  pub whole : text ≡ error_line fault ++ 10 ∷ more

-- the text of a failure has been put, or a front of it where the sink failed
pub record PutsFault (terminal : Bool) (fault : RunFault) (held holds : Option (List ℕ)) (failed : Bool) : Type 0 where
  pub text : List ℕ
  pub is : IsText terminal fault text
  pub put : PutsLine held holds failed text

-- the fault's status, and its line
abbrev pub ReportsFault : Bool → RunFault → Option (List ℕ) → Option (List ℕ) → Bool → ℕ → Type 0
ReportsFault terminal fault held holds failed status = (status ≡ exit_status fault) × PutsFault terminal fault held holds failed

-- Success is silent, a failure is reported. If there is no memory for its line, that is reported.
abbrev pub EndsReported : {T : Type 0} → Bool → Result T RunFault → Option (List ℕ) → Option (List ℕ) → Bool → ℕ → Type 0
EndsReported terminal (Ok x) held holds failed status = (status ≡ 0) × Keeps held holds
EndsReported terminal (Err fault) held holds failed status = ReportsFault terminal fault held holds failed status ⊎ ReportsFault terminal Memory held holds failed status

-- the line of words that would put a .dex file on a terminal
abbrev pub terminal_line : List ℕ
terminal_line = codes "dexasm: a .dex file isn't for a terminal: use --output FILE or a pipe" ++ 10 ∷ []

-- a text is shown on standard output
abbrev pub Shows : Bool → Option (List ℕ) → Option (List ℕ) → Bool → Option (List ℕ) → Option (List ℕ) → Bool → List ℕ → ℕ → Type 0
Shows terminal held holds failed errors_before errors_after errors_failed text status =
    (Appends held holds text × (status ≡ 0) × Keeps errors_before errors_after)
    ⊎ ((failed ≡ true) × (n : ℕ) × Appends held holds (take n text)
    × (ReportsFault terminal Output errors_before errors_after errors_failed status ⊎ ReportsFault terminal Memory errors_before errors_after errors_failed status))
