-- The fields of a row of class_defs, and the order of its rows (Dalvik Executable format, "class_def_item").
use Rattle.std.specs.Prelude.{◌≡◌, ◌≢◌, ℕ, ◌+◌, ◌*◌, ◌<◌, ◌≤◌, List, length, slice_index, Option, MatchOption}
use Rattle.dex_base.specs.Fields.{u32_at}
use Rattle.dex_container.specs.Layout.{size_of}
use Rattle.program_types.specs.Content.{Units}
use Rattle.tables_rows.specs.RowFields.{row_place}
use Rattle.tables_rows.specs.Stands.{SpellsIndexes}
use Rattle.dex_container.specs.Where.{AtOrNone}
use Rattle.dex_container.specs.Section as section

-- word j of row i: class, access flags, superclass, interfaces, source file, annotations, class data, static values
unfoldable pub class_word : List ℕ → ℕ → ℕ → ℕ
class_word b i j = u32_at b (row_place b section.class_defs i + 4 * j)

-- class_idx of row i: its type
abbrev pub class_idx : List ℕ → ℕ → ℕ
class_idx b i = class_word b i 0

-- access_flags of row i: its flags
abbrev pub access_flags : List ℕ → ℕ → ℕ
access_flags b i = class_word b i 1

-- superclass_idx of row i: its superclass
abbrev pub superclass_idx : List ℕ → ℕ → ℕ
superclass_idx b i = class_word b i 2

-- interfaces_off of row i: the offset of its interfaces
abbrev pub interfaces_off : List ℕ → ℕ → ℕ
interfaces_off b i = class_word b i 3

-- source_file_idx of row i: its source file
abbrev pub source_file_idx : List ℕ → ℕ → ℕ
source_file_idx b i = class_word b i 4

-- annotations_off of row i: the offset of its annotations
abbrev pub annotations_off : List ℕ → ℕ → ℕ
annotations_off b i = class_word b i 5

-- class_data_off of row i: the offset of its class data
abbrev pub class_data_off : List ℕ → ℕ → ℕ
class_data_off b i = class_word b i 6

-- static_values_off of row i: the offset of its static values
abbrev pub static_values_off : List ℕ → ℕ → ℕ
static_values_off b i = class_word b i 7

-- the index for none (NO_INDEX)
abbrev pub no_index : ℕ
no_index = 0xffffffff

-- The index denotes this name, or none.
abbrev pub IndexOrNone : (ℕ → Units → Type 0) → ℕ → Option Units → Type 0
IndexOrNone S i name = MatchOption name (i ≡ no_index) (λ n. (i ≢ no_index) × S i n)

-- The interfaces of row i, by index.
abbrev pub InterfaceIndexes : List ℕ → ℕ → List ℕ → Type 0
InterfaceIndexes b i indexes = AtOrNone SpellsIndexes b 0x1001 4 (interfaces_off b i) indexes

-- No row from `from` on, before `to`, defines the type of this index.
abbrev pub NoneDefines : List ℕ → ℕ → ℕ → ℕ → Type 0
NoneDefines b from to ty = (j : ℕ) → from ≤ j → j < to → class_idx b j ≢ ty

-- The row defines a class that no earlier row defines, and its superclass and interfaces are defined neither here nor in a later row.
pub record InOrder (b : List ℕ) (i : ℕ) : Type 0 where
  pub once : NoneDefines b 0 i (class_idx b i)
  pub superclass : superclass_idx b i ≢ no_index → NoneDefines b i (size_of b section.class_defs) (superclass_idx b i)
  pub interfaces : (indexes : List ℕ) → InterfaceIndexes b i indexes → (k : ℕ) → k < length indexes → NoneDefines b i (size_of b section.class_defs) (slice_index indexes k)
