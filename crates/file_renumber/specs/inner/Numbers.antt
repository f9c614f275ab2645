-- How many marked rows stand before each row, which is the row's number in a file of the marked ones alone.
-- Page: "Dalvik Executable format", "File layout": string_ids to method_ids are sorted and have no duplicates.
use Rattle.std.specs.Prelude.{◌≡◌, ◌↔◌, ℕ, ◌<◌, ◌+◌, List, true, length, slice_index, slice_get, Some, sum, take}
use Rattle.dex_container.specs.Layout.{size_of}
use Rattle.dex_container.specs.Section as section
use Rattle.dex_insn.specs.declared.opcode.IndexKind.{IndexKind}
use Rattle.dex_insn.specs.declared.opcode.IndexKind.TheVariants as kind
use Rattle.program_types.specs.Content.{Name, Proto}
use Rattle.program_types.specs.Key.{proto_key}
use Rattle.tables_names.specs.Closure.{Five, NameRanks}
use Rattle.tables_names.specs.inner.Closure.{Holds}
use Rattle.tables_names.specs.Rank.{IsAt, is_member}
use Rattle.tables_rows.specs.Sorted.{TablesHold}
use Rattle.tables_rows.specs.Stands.{NameStands, ProtoStands}
use Rattle.file_renumber.specs.inner.Marked.{Columns, Marked, AreMarks, kind_of}

-- how many marked rows stand before row i
abbrev pub before : List ℕ → ℕ → ℕ
before column i = sum (take i column)

-- Of each row how many marked ones stand before it.
pub record Counts (column numbers : List ℕ) : Type 0 where
  pub long : length numbers ≡ length column
  pub each : (i : ℕ) → i < length column → slice_index numbers i ≡ before column i

-- In each of the five tables, of each row how many marked ones stand before it.
pub record AreRowNumbers (marks numbers : Columns) : Type 0 where
  pub strings : Counts marks.strings numbers.strings
  pub types : Counts marks.types numbers.types
  pub protos : Counts marks.protos numbers.protos
  pub fields : Counts marks.fields numbers.fields
  pub methods : Counts marks.methods numbers.methods

-- the column of the table of a kind
abbrev pub column_of : Columns → IndexKind → List ℕ
column_of c kind.String = c.strings
column_of c kind.Type = c.types
column_of c kind.Field = c.fields
column_of c kind.Method = c.methods

-- Row i is one of those that are counted.
abbrev pub IsKept : List ℕ → ℕ → Type 0
IsKept numbers i = slice_index numbers i < slice_index numbers (i + 1)

-- The naming N is carried to the naming M by these numbers, as far as this name goes: each index that stands for it by
-- N has a number, which stands for it by M.
abbrev pub Carries : (ℕ → Name → Type 0) → (ℕ → Name → Type 0) → Columns → Name → Type 0
Carries N M numbers which =
    (i : ℕ) → N i which → (number : ℕ) × (slice_get (column_of numbers (kind_of which)) i ≡ Some number) × M number which

-- The numbers of a file's marked rows are the ranks of their names.
abbrev pub KeptRowsAreRanks : Type 0
KeptRowsAreRanks =
    (b : List ℕ) (m : Marked) (s : Five) (numbers : Columns) → TablesHold b → AreMarks b m s → AreRowNumbers m.columns numbers
    → (which : Name) → Holds s which → Carries (NameStands b) (NameRanks s) numbers which

-- The numbers of a file's marked rows of proto_ids are the ranks of their prototypes.
abbrev pub KeptProtosAreRanks : Type 0
KeptProtosAreRanks =
    (b : List ℕ) (m : Marked) (s : Five) (numbers : Columns) → TablesHold b → AreMarks b m s → AreRowNumbers m.columns numbers
    → (p : Proto) → is_member s.protos (proto_key p) ≡ true
    → (i : ℕ) → ProtoStands b i p → (number : ℕ) × (slice_get numbers.protos i ≡ Some number) × IsAt s.protos number (proto_key p)

-- The rows that are counted are those of the names.
abbrev pub KeptRowsAreHeld : Type 0
KeptRowsAreHeld =
    (b : List ℕ) (m : Marked) (s : Five) (numbers : Columns) → TablesHold b → AreMarks b m s → AreRowNumbers m.columns numbers
    → ((which : Name) (i : ℕ) → NameStands b i which → IsKept (column_of numbers (kind_of which)) i ↔ Holds s which)
    × ((p : Proto) (i : ℕ) → ProtoStands b i p → IsKept numbers.protos i ↔ (is_member s.protos (proto_key p) ≡ true))

-- The last number of each table says how many names of its kind there are.
pub record HaveLengths (b : List ℕ) (numbers : Columns) (s : Five) : Type 0 where
  pub strings : slice_index numbers.strings (size_of b section.string_ids) ≡ length s.strings
  pub types : slice_index numbers.types (size_of b section.type_ids) ≡ length s.types
  pub protos : slice_index numbers.protos (size_of b section.proto_ids) ≡ length s.protos
  pub fields : slice_index numbers.fields (size_of b section.field_ids) ≡ length s.fields
  pub methods : slice_index numbers.methods (size_of b section.method_ids) ≡ length s.methods

-- The last numbers of a file's tables say how many names are marked.
abbrev pub TotalsAreLengths : Type 0
TotalsAreLengths =
    (b : List ℕ) (m : Marked) (s : Five) (numbers : Columns) → TablesHold b → AreMarks b m s → AreRowNumbers m.columns numbers
    → HaveLengths b numbers s
