-- The meaning of the exit status.
use Rattle.std.specs.Prelude.{◌≡◌, ◌⊎◌, ◌≤◌, ℕ, true, List, Option, Some, take, MatchOption}
use Rattle.std.specs.Borrow.{Bor}
use Rattle.std.specs.Io.KnownBytes.{Keeps, Appends}
use Rattle.dex_base.specs.declared.fault.Fault.{Fault}
use Rattle.clap.specs.Words.{subcommand_of}
use Rattle.dexasm_run.specs.Answers.{Answer, Refusal}
use Rattle.dexasm_plan.specs.Commands.{dexasm}
use Rattle.dexasm_plan.specs.Plans.{Plans}
use Rattle.dexasm_plan.specs.declared.planned.Plan.{Plan}
use Rattle.dexasm_run.specs.Runs.{IsAllGiven}
use Rattle.dexasm_run.specs.declared.error.RunFault.{RunFault}
use Rattle.dexasm_run.specs.declared.error.RunFault.TheVariants.{Refused, Input, Output, Memory}
use Rattle.dexasm_world.specs.State.{Path, Passes}
use Rattle.dexasm_world.specs.Safe.{IsSafe, IsDelivered, IsTidy, IsAbandoned}
use Rattle.dexasm_world.specs.FileKinds.{IsHeld, CantBeRead, CauseAt}
use Rattle.dexasm_command.specs.Streams.{path_of}
use Rattle.dexasm_command.specs.Reported.{PutsFault}
use Rattle.dexasm_command.specs.Served.{CommandRun, Serves, DoesNothing, IsShown, IsMisused, IsHeldBack}

-- standard error has the fault's line, or a front of it if it failed
abbrev pub ReportsIn : CommandRun → RunFault → Type 0
ReportsIn r fault = PutsFault r.terminals.errors fault r.errors_before r.errors_after r.errors_failed

-- the output has reached OUT, safe at each moment, and nothing is left beside it
pub record IsBrought (r : CommandRun) (out : Path) (answer : List ℕ) : Type 0 where
  pub moments : Passes r.before.files r.after.files (IsSafe r.before.files out answer)
  pub delivered : IsDelivered r.before.files out answer r.after.files.now
  pub tidy : IsTidy r.before.files out r.after.files

-- each moment on its way there was safe, there is a cause why it didn't come, and nothing is left of it beside OUT
pub record IsNotBrought (r : CommandRun) (out : Path) (answer : List ℕ) : Type 0 where
  pub moments : Passes r.before.files r.after.files (IsSafe r.before.files out answer)
  pub cause : CauseAt out r.before.files r.after.files
  pub given_up : IsAbandoned r.before.files out answer r.after.files

-- these bytes are what FILE holds, or all that standard input gave
abbrev pub IsInput : CommandRun → Option (Bor Path) → List ℕ → Type 0
IsInput r file given = MatchOption file
    (IsAllGiven r.before.left r.after.left given)
    (λ path. r.before.known ≡ true → IsHeld r.before.files path.now given)

-- the output has reached OUT or, without OUT, standard output, and nothing else is changed
abbrev pub HasCome : CommandRun → Option (Bor Path) → List ℕ → Type 0
HasCome r out answer = MatchOption out
    ((r.after.files ≡ r.before.files) × Appends r.before.taken r.after.taken answer)
    (λ path. Keeps r.before.taken r.after.taken × (r.before.known ≡ true → IsBrought r path.now answer))

-- the words are a job, and its output for the bytes that were read has arrived
pub record IsAnswered (r : CommandRun) : Type 0 where
  pub plan : Plan
  pub planned : Plans (subcommand_of dexasm r.words) plan
  pub given : List ℕ
  pub answer : List ℕ
  pub input : IsInput r (path_of plan.file) given
  pub answered : Answer plan.job given answer
  pub come : HasCome r (path_of plan.output) answer
  pub silent : Keeps r.errors_before r.errors_after

-- the words are a job, which refuses the bytes that were read, and nothing was done but a line reports it
pub record IsJobRefused (r : CommandRun) : Type 0 where
  pub plan : Plan
  pub planned : Plans (subcommand_of dexasm r.words) plan
  pub given : List ℕ
  pub fault : Fault
  pub input : IsInput r (path_of plan.file) given
  pub refused : Refusal plan.job given fault
  pub nothing : DoesNothing r
  pub reported : ReportsIn r (Refused fault)

-- the words are a job, and what it is to read couldn't be read: standard input failed, or there is a cause why FILE couldn't be read
pub record CantRead (r : CommandRun) : Type 0 where
  pub plan : Plan
  pub planned : Plans (subcommand_of dexasm r.words) plan
  pub failed : MatchOption (path_of plan.file) (r.after.input_failed ≡ true) (λ path. r.before.known ≡ true → CantBeRead r.before.files path.now)
  pub nothing : DoesNothing r
  pub reported : ReportsIn r Input

-- The output has not arrived completely. Standard output, which failed, has a front of it, or each moment of OUT was safe, and there is
-- a cause.
abbrev pub HasBegun : CommandRun → Option (Bor Path) → List ℕ → Type 0
HasBegun r out answer = MatchOption out
    ((r.after.files ≡ r.before.files) × (r.after.output_failed ≡ true) × (n : ℕ) × Appends r.before.taken r.after.taken (take n answer))
    (λ path. Keeps r.before.taken r.after.taken × (r.before.known ≡ true → IsNotBrought r path.now answer))

-- the words are a job, and its output for the bytes that were read could not be written
pub record CantWrite (r : CommandRun) : Type 0 where
  pub plan : Plan
  pub planned : Plans (subcommand_of dexasm r.words) plan
  pub given : List ℕ
  pub answer : List ℕ
  pub input : IsInput r (path_of plan.file) given
  pub answered : Answer plan.job given answer
  pub begun : HasBegun r (path_of plan.output) answer
  pub reported : ReportsIn r Output

-- the words request help or the version, and standard output failed
pub record CantShow (r : CommandRun) : Type 0 where
  pub files : r.after.files ≡ r.before.files
  pub failed : r.after.output_failed ≡ true
  pub reported : ReportsIn r Output

-- each moment of OUT is safe during the delivery of the job's output, and in the end nothing is left beside it, whether the output has
-- arrived or not
pub record IsKeptSafe (r : CommandRun) : Type 0 where
  pub plan : Plan
  pub planned : Plans (subcommand_of dexasm r.words) plan
  pub given : List ℕ
  pub answer : List ℕ
  pub out : Bor Path
  pub input : IsInput r (path_of plan.file) given
  pub answered : Answer plan.job given answer
  pub is : path_of plan.output ≡ Some out
  pub moments : Passes r.before.files r.after.files (IsSafe r.before.files out.now answer)
  pub left : IsAbandoned r.before.files out.now answer r.after.files

-- status 0: the output has arrived, or help or the version is shown
abbrev pub ZeroMeans : Type 0
ZeroMeans = (r : CommandRun) → Serves r → r.status ≡ 0 → IsAnswered r ⊎ IsShown r

-- status 1: the input is refused, and nothing is done
abbrev pub OneMeans : Type 0
OneMeans = (r : CommandRun) → Serves r → r.status ≡ 1 → IsJobRefused r

-- status 2: the words are wrong, or would put a .dex file on a terminal, and nothing is done
abbrev pub TwoMeans : Type 0
TwoMeans = (r : CommandRun) → Serves r → r.status ≡ 2 → IsMisused r ⊎ IsHeldBack r

-- status 3: reading or writing failed
abbrev pub ThreeMeans : Type 0
ThreeMeans = (r : CommandRun) → Serves r → r.status ≡ 3 → CantRead r ⊎ CantWrite r ⊎ CantShow r

-- status 4: out of memory, which a line reports
abbrev pub FourMeans : Type 0
FourMeans = (r : CommandRun) → Serves r → r.status ≡ 4 → ReportsIn r Memory

-- there is no other status
abbrev pub NoOther : Type 0
NoOther = (r : CommandRun) → Serves r → r.status ≤ 4

-- Whatever the status: no file is touched, or each moment of OUT was safe.
abbrev pub OutIsNeverLost : Type 0
OutIsNeverLost = (r : CommandRun) → Serves r → r.before.known ≡ true → (r.after.files ≡ r.before.files) ⊎ IsKeptSafe r
