-- A job, carried out.
use Rattle.std.specs.Prelude.{◌≡◌, ◌⊎◌, ℕ, Bool, true, false, List, [], Option, Some, Result, Err, MatchOption}
use Rattle.std.specs.Io.KnownBytes.{Keeps}
use Rattle.std.specs.Borrow.{Bor}
use Rattle.dexasm_world.specs.declared.job.Job.{Job}
use Rattle.dexasm_run.specs.Answers.{Answer}
use Rattle.dexasm_run.specs.Runs.{MatchRun, IsAllGiven, Answers, BeginsAnswer, Refuses}
use Rattle.dexasm_run.specs.declared.error.RunFault.{RunFault}
use Rattle.dexasm_run.specs.declared.error.RunFault.TheVariants.{Input, Memory}
use Rattle.dexasm_world.specs.State.{Path, Files, Passes}
use Rattle.dexasm_world.specs.Safe.{IsSafe, IsDelivered, IsTidy, IsAbandoned}
use Rattle.dexasm_world.specs.FileKinds.{IsHeld, CantBeRead, CauseAt}

-- What is around a command at a moment: the files, whether clauses can speak of them, what standard input has left, what standard output
-- has taken, and whether a call on these two has failed.
pub record Around : Type 0 where
  pub known : Bool
  pub files : Files
  pub left : Option (List ℕ)
  pub input_failed : Bool
  pub taken : Option (List ℕ)
  pub output_failed : Bool

-- what is around a call whose six things are known by their terms
abbrev pub around : Bool → Files → Option (List ℕ) → Bool → Option (List ℕ) → Bool → Around
around known files left input_failed taken output_failed =
    record { known = known; files = files; left = left; input_failed = input_failed; taken = taken; output_failed = output_failed }

-- all was read, and each moment of the delivery of the output to OUT is safe
pub record IsOnItsWay (known : Type 0) (job : Job) (had left : Option (List ℕ)) (f g : Files) (out : Path) (answer : List ℕ) : Type 0 where
  pub given : List ℕ
  pub whole : IsAllGiven had left given
  pub answered : Answer job given answer
  pub moments : known → Passes f g (IsSafe f out answer)

-- The output goes to standard output, and no file is touched.
abbrev pub ToOutput : {T : Type 0} → Job → Option (List ℕ) → Option (List ℕ) → Bool → Around → Around → Result T RunFault → Type 0
ToOutput job had left failed a b result = (b.files ≡ a.files) × MatchRun result
    (Answers job had left a.taken b.taken)
    (λ fault. Refuses job had left fault × Keeps a.taken b.taken)
    ((failed ≡ true) × Keeps a.taken b.taken)
    ((b.output_failed ≡ true) × BeginsAnswer job had left a.taken b.taken)
    (Keeps a.taken b.taken)

-- The output goes to OUT. Before it is complete no file is touched.
abbrev pub GoesTo : {T : Type 0} → Job → Option (List ℕ) → Option (List ℕ) → Bool → Type 0 → Files → Files → Path → Result T RunFault → Type 0
GoesTo job had left failed known f g out result = MatchRun result
    ((answer : List ℕ) × IsOnItsWay known job had left f g out answer × (known → IsDelivered f out answer g.now × IsTidy f out g))
    (λ fault. Refuses job had left fault × (g ≡ f))
    ((failed ≡ true) × (g ≡ f))
    ((answer : List ℕ) × IsOnItsWay known job had left f g out answer × (known → CauseAt out f g × IsAbandoned f out answer g))
    ((g ≡ f) ⊎ ((answer : List ℕ) × IsOnItsWay known job had left f g out answer × (known → IsAbandoned f out answer g)))

-- and standard output takes nothing
abbrev pub ToOut : {T : Type 0} → Job → Option (List ℕ) → Option (List ℕ) → Bool → Around → Around → Path → Result T RunFault → Type 0
ToOut job had left failed a b out result = GoesTo job had left failed (a.known ≡ true) a.files b.files out result × Keeps a.taken b.taken

-- The output for these bytes goes to OUT, or to standard output if there is no OUT.
abbrev pub AnswersFrom : {T : Type 0} → Job → Option (Bor Path) → Option (List ℕ) → Option (List ℕ) → Bool → Around → Around → Result T RunFault → Type 0
AnswersFrom job out had left failed a b result = MatchOption out
    (ToOutput job had left failed a b result)
    (λ path. ToOut job had left failed a b path.now result)

-- FILE can't be read, and nothing is done
pub record IsUnreadable {T : Type 0} (path : Path) (a b : Around) (result : Result T RunFault) : Type 0 where
  pub reported : ((result ≡ Err Input) × (a.known ≡ true → CantBeRead a.files path)) ⊎ (result ≡ Err Memory)
  pub untouched : b.files ≡ a.files
  pub kept : Keeps a.taken b.taken

-- the job runs on the bytes of FILE, and standard input is not read
abbrev pub AnswersFile : {T : Type 0} → Job → Path → Option (Bor Path) → Around → Around → Result T RunFault → Type 0
AnswersFile job path out a b result = (b.left ≡ a.left) × (given : List ℕ) × (a.known ≡ true → IsHeld a.files path given)
    × AnswersFrom job out (Some given) (Some []) false a b result

-- A job is carried out, on FILE or on standard input.
abbrev pub CarriesOut : {T : Type 0} → Job → Option (Bor Path) → Option (Bor Path) → Around → Around → Result T RunFault → Type 0
CarriesOut job file out a b result = MatchOption file
    (AnswersFrom job out a.left b.left b.input_failed a b result)
    (λ path. IsUnreadable path.now a b result ⊎ AnswersFile job path.now out a b result)
