-- The rows that are written of the first rows of a table: those of the kept ones.
-- Page: "Dalvik Executable format", "string_id_item" to "method_id_item".
use Rattle.std.specs.Prelude.{ℕ, List, slice_index, take}
use Rattle.dex_base.specs.Grammar.{Appends}
use Rattle.file_put.specs.inner.Rows.{SpellsProtos, SpellsTable}
use Rattle.program_types.specs.Key.{Key}
use Rattle.tables_names.specs.Closure.{Five}

-- `new` is `old` and after it the rows of the kept ones of the first n rows, by these numbers.
abbrev pub AreFirstRows : {V : Type 0} → (V → Key) → (List ℕ → V → Type 0) → List ℕ → List Key → List ℕ → ℕ → List ℕ → Type 0
AreFirstRows key G numbers table old n new = Appends (SpellsTable key G) old new (take (slice_index numbers n) table)

-- `new` is `old` and after it the rows of the kept ones of the first n prototypes, by these numbers; their parameters
-- stand at these places.
abbrev pub AreFirstProtos : Five → List ℕ → List ℕ → List ℕ → ℕ → List ℕ → Type 0
AreFirstProtos s numbers places old n new = Appends (SpellsProtos s (take (slice_index numbers n) places)) old new (take (slice_index numbers n) s.protos)
