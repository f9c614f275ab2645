-- Type lists by the indices of types.
-- Page: "Dalvik Executable format", "type_list" and "type_item".
use Rattle.std.specs.Prelude.{◌≡◌, ℕ, ◌<◌, ◌^◌, List, ◌++◌}
use Rattle.std.specs.List.{AllByRecursion}
use Rattle.dex_base.specs.Words.{halves_bytes}
use Rattle.tables_names.specs.Closure.{Five}
use Rattle.tables_names.specs.inner.Indices.{AreIndices}
use Rattle.program_types.specs.Content.{Descriptor}
use Rattle.tables_rows.specs.Stands.{SpellsIndexes}

-- A type_list whose indices are those of these types.
pub record SpellsRanks (s : Five) (bytes : List ℕ) (ts : List Descriptor) : Type 0 where
  pub indexes : List ℕ
  pub spelled : SpellsIndexes bytes indexes
  pub named : AreIndices s.types indexes ts

-- `new` is `old` and after it the indices of these types.
pub record AddsIndices (s : Five) (old new : List ℕ) (ts : List Descriptor) : Type 0 where
  pub indexes : List ℕ
  pub whole : new ≡ old ++ halves_bytes indexes
  pub small : AllByRecursion (λ i. i < 2 ^ 16) indexes
  pub named : AreIndices s.types indexes ts
