-- What is decided of a file.
-- Page: "Dalvik Executable format".
use Rattle.std.specs.Prelude.{ℕ, ◌⊎◌, List}
use Rattle.dex_base.specs.declared.fault.Fault.{Fault}
use Rattle.program_types.specs.Content.{Program}
use Rattle.file_read.specs.Means.{Means}
use Rattle.file_read.specs.Refused.{IsRefused}

-- The file means a program, or a fault refuses it.
abbrev pub MeansOrRefused : List ℕ → Type 0
MeansOrRefused b = ((p : Program) × Means b p) ⊎ ((e : Fault) × IsRefused b e)
