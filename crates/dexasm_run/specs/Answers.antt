-- The output of a job for its input bytes, and when it refuses them.
-- Page: docs/PROVED.md; "Dalvik Executable format" for files, docs/LISTING.md for listings.
use Rattle.std.specs.Prelude.{◌≡◌, ℕ, Bool, true, false, ◌⊎◌, List, codes, Result, Ok, Err}
use Rattle.code_align.specs.Programs.{AlignedProgram, IsTooLong}
use Rattle.dex_base.specs.declared.fault.Fault.{Fault}
use Rattle.file_read.specs.Means.{Means}
use Rattle.file_read.specs.Refused.{IsRefused}
use Rattle.file_limits.specs.Limits.{Fits, IsLowestLimit}
use Rattle.listing_parse.specs.Texts.{ListingText}
use Rattle.listing_parse.specs.Text.{ListingBreaks}
use Rattle.listing_print.specs.Canon.{canon}
use Rattle.program_rules.specs.WellFormed.{WellFormed}
use Rattle.program_types.specs.Content.{Program}
use Rattle.file_write.specs.Written.{IsFileOf, IsStripped, IsStripRefused}
use Rattle.dexasm_world.specs.declared.job.Job.{Job}
use Rattle.dexasm_world.specs.declared.job.Job.TheVariants.{Check, List as Listing, Assemble, Strip}

-- The text is the text of a program, line by line as LISTING has them, and the program is well formed.
pub record Lists (given : List ℕ) (p : Program) : Type 0 where
  pub text : ListingText given p
  pub formed : WellFormed p

-- The one program is the other with each of its codes aligned, and well formed: no code gets too long.
pub record IsAligned (p q : Program) : Type 0 where
  pub aligned : AlignedProgram p q
  pub formed : WellFormed q

-- The program fits, and the bytes are its file; with align those of the program aligned.
abbrev pub IsAssembled : Bool → Program → List ℕ → Type 0
IsAssembled false p made = Fits p × IsFileOf p made
IsAssembled true p made = (q : Program) × IsAligned p q × Fits q × IsFileOf q made

-- The program breaks a limit of the format; with align a code would be too long when aligned, or else the aligned program breaks one.
abbrev pub IsUnassembled : Bool → Program → Fault → Type 0
IsUnassembled false p fault = IsLowestLimit p fault
IsUnassembled true p fault = IsTooLong p fault ⊎ ((q : Program) × IsAligned p q × IsLowestLimit q fault)

-- The job's output for these bytes. Check: `ok` and a line feed, if they are a file. List: the listing of the file's program.
-- Assemble: the file of the listed program, or with align of that program aligned. Strip: the file of the file's program.
abbrev pub Answer : Job → List ℕ → List ℕ → Type 0
Answer Check given made = (p : Program) × Means given p × (made ≡ codes "ok\n")
Answer Listing given made = (p : Program) × Means given p × (made ≡ canon p)
Answer (Assemble align) given made = (p : Program) × Lists given p × IsAssembled align p made
Answer Strip given made = IsStripped given made

-- The job refuses these bytes with this fault: they are no file, or no listing, or their program can't be written.
abbrev pub Refusal : Job → List ℕ → Fault → Type 0
Refusal Check given fault = IsRefused given fault
Refusal Listing given fault = IsRefused given fault
Refusal (Assemble align) given fault =
    ListingBreaks given fault.code fault.place ⊎ ((p : Program) × Lists given p × IsUnassembled align p fault)
Refusal Strip given fault = IsStripRefused given fault

-- The outcome of a job on these bytes, unless memory runs out: its output, or its refusal.
abbrev pub Outcome : Job → List ℕ → Result (List ℕ) Fault → Type 0
Outcome job given (Ok made) = Answer job given made
Outcome job given (Err fault) = Refusal job given fault
