-- The words of a command line that mean standard input and standard output.
-- Page: docs/man/dexasm.1, "DESCRIPTION".
use Rattle.std.specs.Prelude.{Bool, true, false, Option, Some, None, codes, is_some, if◌then◌else◌}
use Rattle.std.specs.Borrow.{Bor}
use Rattle.std.specs.Str.{bytes_eq}
use Rattle.clap.specs.Words.{Text}
use Rattle.dexasm_world.specs.declared.job.Job.{Job}
use Rattle.dexasm_world.specs.declared.job.Job.TheVariants.{Check, List as Listing, Assemble, Strip}

-- The path of FILE or of OUT. Where there is no word, or the word is `-`, it is a standard stream.
abbrev pub path_of : Option (Bor Text) → Option (Bor Text)
path_of None = None
path_of (Some word) = if bytes_eq word.now (codes "-") then None else Some word

-- the job's output is a .dex file
abbrev pub makes_file : Job → Bool
makes_file Check = false
makes_file Listing = false
makes_file (Assemble align) = true
makes_file Strip = true

-- a .dex file goes to standard output
abbrev pub puts_file : Job → Option (Bor Text) → Bool
puts_file job out = if is_some out then false else makes_file job
