-- A command line, carried out.
use Rattle.std.specs.Prelude.{◌≡◌, ◌≢◌, ◌⊎◌, ◌&&◌, [], ℕ, Bool, true, false, List, Option, Result}
use Rattle.std.specs.Io.KnownBytes.{Keeps}
use Rattle.clap.specs.Words.{Text, IsAmong, fault_of, subcommand_of}
use Rattle.clap.specs.declared.error.kind.ErrorKind.{ErrorKind}
use Rattle.clap.specs.declared.error.kind.ErrorKind.TheVariants.{DisplayHelp, DisplayVersion}
use Rattle.dexasm_plan.specs.Commands.{dexasm}
use Rattle.dexasm_plan.specs.Plans.{Plans}
use Rattle.dexasm_plan.specs.declared.planned.Plan.{Plan}
use Rattle.dexasm_run.specs.declared.error.RunFault.{RunFault}
use Rattle.dexasm_run.specs.declared.error.RunFault.TheVariants.{Memory}
use Rattle.dexasm_command.specs.Streams.{path_of, puts_file}
use Rattle.dexasm_command.specs.Carried.{Around, CarriesOut}
use Rattle.dexasm_command.specs.Reported.{PutsLine, ReportsFault, EndsReported, Shows, terminal_line}
use Rattle.dexasm_command.specs.declared.terminals.Terminals.{Terminals}

-- a run of the program: its words, which streams are terminals, what is around it before and after, what standard error had and has,
-- whether that has failed, and the exit status
pub record CommandRun : Type 0 where
  pub words : List Text
  pub terminals : Terminals
  pub before : Around
  pub after : Around
  pub errors_before : Option (List ℕ)
  pub errors_after : Option (List ℕ)
  pub errors_failed : Bool
  pub status : ℕ

-- no file is touched, and standard output takes nothing
pub record DoesNothing (r : CommandRun) : Type 0 where
  pub files : r.after.files ≡ r.before.files
  pub output : Keeps r.before.taken r.after.taken

-- a .dex file would go to a terminal
abbrev pub is_held_back : Terminals → Plan → Bool
is_held_back terminals plan = terminals.output && puts_file plan.job (path_of plan.output)

-- the words are a job, which is carried out
pub record IsCarried (r : CommandRun) : Type 0 where
  pub plan : Plan
  pub planned : Plans (subcommand_of dexasm r.words) plan
  pub right : fault_of dexasm r.words ≡ []
  pub allowed : is_held_back r.terminals plan ≡ false
  pub result : Result (Unit {0}) RunFault
  pub carried : CarriesOut plan.job (path_of plan.file) (path_of plan.output) r.before r.after result
  pub ended : EndsReported r.terminals.errors result r.errors_before r.errors_after r.errors_failed r.status

-- the words are a job whose output, a .dex file, would go to a terminal
pub record IsHeldBack (r : CommandRun) : Type 0 where
  pub plan : Plan
  pub planned : Plans (subcommand_of dexasm r.words) plan
  pub right : fault_of dexasm r.words ≡ []
  pub held_back : is_held_back r.terminals plan ≡ true
  pub nothing : DoesNothing r
  pub unread : r.after.left ≡ r.before.left
  pub reported : PutsLine r.errors_before r.errors_after r.errors_failed terminal_line
  pub status : r.status ≡ 2

-- the words request help or the version, which goes to standard output
pub record IsShown (r : CommandRun) : Type 0 where
  pub kind : ErrorKind
  pub requested : IsAmong kind (fault_of dexasm r.words)
  pub is : (kind ≡ DisplayHelp) ⊎ (kind ≡ DisplayVersion)
  pub files : r.after.files ≡ r.before.files
  pub text : List ℕ
  pub shown : Shows r.terminals.errors r.before.taken r.after.taken r.after.output_failed r.errors_before r.errors_after r.errors_failed text r.status

-- the words are wrong
pub record IsMisused (r : CommandRun) : Type 0 where
  pub kind : ErrorKind
  pub wrong : IsAmong kind (fault_of dexasm r.words)
  pub no_help : kind ≢ DisplayHelp
  pub no_version : kind ≢ DisplayVersion
  pub nothing : DoesNothing r
  pub status : r.status ≡ 2

-- the words couldn't be read for want of memory
pub record IsUnread (r : CommandRun) : Type 0 where
  pub nothing : DoesNothing r
  pub reported : ReportsFault r.terminals.errors Memory r.errors_before r.errors_after r.errors_failed r.status

-- The effects of a command line.
abbrev pub Serves : CommandRun → Type 0
Serves r = IsCarried r ⊎ IsShown r ⊎ IsMisused r ⊎ IsUnread r ⊎ IsHeldBack r
