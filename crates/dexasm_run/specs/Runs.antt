-- What a run leaves, by how it ended.
use Rattle.std.specs.Prelude.{◌≡◌, ℕ, Bool, true, ◌≤◌, List, Option, Result, Ok, Err, take, length}
use Rattle.std.specs.Io.KnownBytes.{Appends, Consumes, IsAtEnd}
use Rattle.dexasm_world.specs.declared.job.Job.{Job}
use Rattle.dex_base.specs.declared.fault.Fault.{Fault}
use Rattle.dexasm_run.specs.Answers.{Answer, Refusal}
use Rattle.dexasm_run.specs.declared.error.RunFault.{RunFault}
use Rattle.dexasm_run.specs.declared.error.RunFault.TheVariants.{Refused, Input, Output, Memory}

-- a fact for each way that a run ends
abbrev pub MatchRun : {T : Type 0} → Result T RunFault → Type 0 → (Fault → Type 0) → Type 0 → Type 0
    → Type 0 → Type 0
MatchRun (Ok r) done refused input output memory = done
MatchRun (Err (Refused fault)) done refused input output memory = refused fault
MatchRun (Err Input) done refused input output memory = input
MatchRun (Err Output) done refused input output memory = output
MatchRun (Err Memory) done refused input output memory = memory

-- `given` is all that a source gave, up to its end
pub record IsAllGiven (old new : Option (List ℕ)) (given : List ℕ) : Type 0 where
  pub gave : Consumes old new given
  pub end : IsAtEnd new

-- a source had some bytes up to its end, and a sink took the job's output for them
abbrev pub Answers : Job → Option (List ℕ) → Option (List ℕ) → Option (List ℕ) → Option (List ℕ) → Type 0
Answers job had left held holds = (given : List ℕ) × (made : List ℕ)
    × IsAllGiven had left given × Answer job given made × Appends held holds made

-- a source gave some bytes up to its end, and the job refuses them with this fault
abbrev pub Refuses : Job → Option (List ℕ) → Option (List ℕ) → Fault → Type 0
Refuses job had left fault = (given : List ℕ) × IsAllGiven had left given × Refusal job given fault

-- a source had some bytes up to its end, and a sink took a beginning of the job's output for them
abbrev pub BeginsAnswer : Job → Option (List ℕ) → Option (List ℕ) → Option (List ℕ) → Option (List ℕ) → Type 0
BeginsAnswer job had left held holds = (given : List ℕ) × (made : List ℕ) × (n : ℕ)
    × IsAllGiven had left given × Answer job given made × (n ≤ length made)
    × Appends held holds (take n made)

-- putting it all, or a beginning of it where the sink failed
abbrev pub WritesAll : {T : Type 0} → Option (List ℕ) → Option (List ℕ) → Bool → List ℕ → Result T RunFault → Type 0
WritesAll old new failed made (Ok r) = Appends old new made
WritesAll old new failed made (Err Output) = (failed ≡ true) × (n : ℕ) × (n ≤ length made) × Appends old new (take n made)
WritesAll old new failed made (Err _) = ⊥
