-- What a call leaves in its caller's memory, by how it ended. `old` and `new` are the caller's buffer before and after.
use Rattle.std.specs.Prelude.{◌≡◌, ℕ, ◌<◌, ◌≤◌, List, ◌++◌, length, drop}
use Rattle.dex_base.specs.Fault.{memory}
use Rattle.dex_base.specs.declared.fault.Fault.{Fault}
use Rattle.dexasm_world.specs.declared.job.Job.{Job}
use Rattle.dexasm_world.specs.declared.job.Job.TheVariants.{Check}
use Rattle.dexasm_run.specs.Answers.{Answer, Refusal}
use Rattle.dexasm_c.specs.declared.ending.CFault.{CFault}
use Rattle.dexasm_c.specs.declared.ending.Ending.{Ending}
use Rattle.dexasm_c.specs.declared.ending.Ending.TheVariants.{Answered, Refused, Memory, TooSmall}

-- no fault is reported
abbrev pub none : CFault
none = record { code = 0; place = 0 }

-- the fault that is reported
abbrev pub as_fault : CFault → Fault
as_fault fault = record { code = fault.code; place = fault.place }

-- Bytes are put: all of them at the front of the buffer, which is as it was after them; or none, where it is too small for them.
-- Their number is reported.
abbrev pub Puts : Ending → List ℕ → List ℕ → List ℕ → ℕ → Type 0
Puts Answered made old new needed =
    (length made ≤ length old) × (new ≡ made ++ drop (length made) old) × (needed ≡ length made)
Puts TooSmall made old new needed = (length old < length made) × (new ≡ old) × (needed ≡ length made)
Puts _ made old new needed = ⊥

-- The job's output for the input bytes is put, or its length is reported if it is too long; or the job refuses them with the reported
-- fault, or had not enough memory, and the buffer is as it was.
abbrev pub Ends : Ending → Job → List ℕ → List ℕ → List ℕ → ℕ → CFault → Type 0
Ends Answered job given old new needed fault =
    (made : List ℕ) × Answer job given made × Puts Answered made old new needed × (fault ≡ none)
Ends TooSmall job given old new needed fault =
    (made : List ℕ) × Answer job given made × Puts TooSmall made old new needed × (fault ≡ none)
Ends Refused job given old new needed fault = Refusal job given (as_fault fault) × (new ≡ old) × (needed ≡ 0)
Ends Memory job given old new needed fault = (as_fault fault ≡ memory) × (new ≡ old) × (needed ≡ 0)

-- The result of a check of the input bytes: they are a file; or they are refused with the reported fault; or out of memory, which is
-- reported.
abbrev pub Checks : Ending → List ℕ → CFault → Type 0
Checks Answered given fault = (made : List ℕ) × Answer Check given made × (fault ≡ none)
Checks Refused given fault = Refusal Check given (as_fault fault)
Checks Memory given fault = as_fault fault ≡ memory
Checks TooSmall given fault = ⊥
