-- A job, run on a source: on its way to being carried out.
use Rattle.std.specs.Prelude.{◌≡◌, ◌⊎◌, ℕ, Bool, true, false, List, [], Option, Some, None, Result, Ok, Err, ⊤, Vec}
use Rattle.std.specs.Global.{Global}
use Rattle.std.specs.Io.KnownBytes.{Keeps}
use Rattle.std.specs.Borrow.{Bor}
use Rattle.dexasm_world.specs.declared.job.Job.{Job}
use Rattle.dexasm_run.specs.Answers.{Answer}
use Rattle.dexasm_run.specs.Runs.{MatchRun, IsAllGiven, Answers, BeginsAnswer, Refuses}
use Rattle.dexasm_run.specs.declared.error.RunFault.{RunFault}
use Rattle.dexasm_run.specs.declared.error.RunFault.TheVariants.{Refused, Input, Output, Memory}
use Rattle.dexasm_world.specs.State.{Path, Files}
use Rattle.dexasm_command.specs.inner.Carried.{HandsOver}
use Rattle.dexasm_world.specs.FileKinds.{IsHeld, CantBeRead}
use Rattle.dexasm_world.specs.declared.world.Refusal.{Refusal}
use Rattle.dexasm_world.specs.declared.world.Refusal.TheVariants.{Memory as NoMemory}

-- The answer is made: of some bytes that the source gave up to its end. Or it isn't, and why.
abbrev pub Makes : Job → Option (List ℕ) → Option (List ℕ) → Bool → Result (Vec ℕ Global) RunFault → Type 0
Makes job had left failed (Ok made) = (given : List ℕ) × IsAllGiven had left given × Answer job given made.items
Makes job had left failed (Err (Refused fault)) = Refuses job had left fault
Makes job had left failed (Err Input) = failed ≡ true
Makes job had left failed (Err Output) = ⊥
Makes job had left failed (Err Memory) = ⊤

-- The answer is put on standard output or, where there is OUT, made for it, and standard output takes nothing.
abbrev pub RunsOn : Job → Option (Bor Path) → Option (List ℕ) → Option (List ℕ) → Bool → Option (List ℕ) → Option (List ℕ) → Bool
    → Result (Vec ℕ Global) RunFault → Type 0
RunsOn job None had left failed taken takes output_failed result = MatchRun result
    (Answers job had left taken takes)
    (λ fault. Refuses job had left fault × Keeps taken takes)
    ((failed ≡ true) × Keeps taken takes)
    ((output_failed ≡ true) × BeginsAnswer job had left taken takes)
    (Keeps taken takes)
RunsOn job (Some path) had left failed taken takes output_failed result = Makes job had left failed result × Keeps taken takes

-- how a run fails where FILE is refused: out of memory is no fault of FILE's
abbrev pub failure_of : Refusal → RunFault
failure_of NoMemory = Memory
failure_of _ = Input

-- what has come of a run on FILE, of which a read was refused, or none
abbrev pub file_outcome : {T : Type 0} → Result T RunFault → Option Refusal → Result T RunFault
file_outcome (Err Input) (Some refusal) = Err (failure_of refusal)
file_outcome result refusal = result

-- FILE can't be read, or memory ran out
abbrev pub FailsToRead : {T : Type 0} → Type 0 → Files → Path → Result T RunFault → Type 0
FailsToRead known f path result = ((result ≡ Err Input) × (known → CantBeRead f path)) ⊎ (result ≡ Err Memory)

-- The job is run on what FILE holds, or that can't be read.
abbrev pub RunsOnFile : Type 0 → Files → Path → Job → Option (Bor Path) → Option (List ℕ) → Option (List ℕ) → Bool
    → Result (Vec ℕ Global) RunFault → Type 0
RunsOnFile known f path job out taken takes output_failed result =
    (FailsToRead known f path result × Keeps taken takes)
    ⊎ ((given : List ℕ) × (known → IsHeld f path given) × RunsOn job out (Some given) (Some []) false taken takes output_failed result)

-- An answer is brought to OUT; where there is none, nothing is done.
abbrev pub BringsToOut : Type 0 → Files → Files → Option (Bor Path) → List ℕ → Result (Unit {0}) RunFault → Type 0
BringsToOut known f g None answer result = (g ≡ f) × (result ≡ Ok tt)
BringsToOut known f g (Some path) answer result = HandsOver known f g path.now answer result
