-- The conditions on a file whose program is written by the numbers of its kept rows.
-- Page: "Dalvik Executable format", "header_item": type_ids_size and proto_ids_size are at most 65535, file_size has four bytes.
use Rattle.std.specs.Prelude.{ℕ, ◌≤◌, List, length}
use Rattle.program_types.specs.Content.{Program}
use Rattle.program_rules.specs.WellFormed.{WellFormed}
use Rattle.tables_names.specs.Needed.{needed}
use Rattle.file_renumber.specs.inner.Marked.{Columns}
use Rattle.file_limits.specs.Wide.{wide}
use Rattle.file_strip.specs.inner.Keeping.{Keeps}

-- These are the numbers of the rows that the program needs; it is well formed, and a file has room for it.
pub record IsReady (b : List ℕ) (numbers : Columns) (p : Program) : Type 0 where
  pub keeps : Keeps b numbers p
  pub formed : WellFormed p
  pub few_types : length (needed p).types ≤ 65535
  pub few_protos : length (needed p).protos ≤ 65535
  pub small : wide p ≤ 4294967295
