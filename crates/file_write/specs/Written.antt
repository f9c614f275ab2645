-- What is written of a program, and of a file.
-- Page: "Dalvik Executable format", "File layout".
use Rattle.std.specs.Prelude.{◌≡◌, ℕ, ◌<◌, ◌≤◌, ◌⊎◌, List, length}
use Rattle.dex_base.specs.declared.fault.Fault.{Fault}
use Rattle.dex_container.specs.Layout.{size_of}
use Rattle.file_read.specs.Means.{Means}
use Rattle.file_read.specs.Refused.{IsRefused}
use Rattle.file_strip.specs.AtLeast.{HoldsAtLeast}
use Rattle.file_limits.specs.Limits.{Fits, IsLowestLimit}
use Rattle.file_limits.specs.Wide.{wide}
use Rattle.tables_names.specs.Needed.{needed}
use Rattle.program_types.specs.Content.{Program}
use Rattle.file_write.specs.Packed.{Packed}
use Rattle.file_write.specs.Least.{HoldsExactly}

-- None of the five tables of names is longer than the same table of the other file.
abbrev pub AreNoLonger : List ℕ → List ℕ → Type 0
AreNoLonger b c = (k : ℕ) → k < 5 → size_of b k ≤ size_of c k

-- The file of a program: it means the program, has no slack, and its tables hold exactly the names that the program needs; these three
-- leave no byte open, so that it is the only one (`one_file`). Every file of the program holds these names, so that its tables are no
-- shorter. The file is no longer than the plain sum.
pub record IsFileOf (p : Program) (b : List ℕ) : Type 0 where
  pub means : Means b p
  pub packed : Packed b
  pub tables : HoldsExactly b (needed p)
  pub least : (c : List ℕ) → Means c p → HoldsAtLeast c (needed p)
  pub no_longer : (c : List ℕ) → Means c p → AreNoLonger b c
  pub short : length b ≤ wide p

-- The one file means a program that fits, and the other is its file, with tables no longer than those of the first.
pub record IsStripped (given made : List ℕ) : Type 0 where
  pub program : Program
  pub meant : Means given program
  pub fits : Fits program
  pub file : IsFileOf program made
  pub no_longer : AreNoLonger made given

-- The file is refused as it is read, or means a program that breaks a limit: 89 or 90, since no file means one that breaks another.
pub record BreaksLimit (given : List ℕ) (fault : Fault) : Type 0 where
  pub program : Program
  pub meant : Means given program
  pub limit : IsLowestLimit program fault
  pub late : (fault.code ≡ 89) ⊎ (fault.code ≡ 90)

-- A fault of reading, or a limit that the program read breaks.
abbrev pub IsStripRefused : List ℕ → Fault → Type 0
IsStripRefused given fault = IsRefused given fault ⊎ BreaksLimit given fault
