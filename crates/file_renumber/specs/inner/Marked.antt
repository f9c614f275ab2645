-- Which rows of a file's tables are marked: those of some names, and with each name those of its parts.
-- Page: "Dalvik Executable format": the fields of string_id_item, type_id_item, proto_id_item, field_id_item and
-- method_id_item that are indices of other rows.
use Rattle.std.specs.Prelude.{◌≡◌, ℕ, nat_eq, ◌+◌, ◌≤◌, ◌<◌, ◌^◌, List, true, length, slice_index}
use Rattle.std.specs.List.{AllByRecursion, list_any}
use Rattle.dex_container.specs.Frame.{IsFramed}
use Rattle.dex_container.specs.Layout.{size_of}
use Rattle.dex_container.specs.Section as section
use Rattle.dex_insn.specs.declared.opcode.IndexKind.{IndexKind}
use Rattle.dex_insn.specs.declared.opcode.IndexKind.TheVariants as kind
use Rattle.program_types.specs.Content.{Units, Name, OfText, OfDesc, OfField, OfMethod}
use Rattle.program_types.specs.Key.{Key, text_key, proto_key, field_ref_key, method_ref_key}
use Rattle.tables_names.specs.Closure.{Five, IsClosed, AreRising, with_names}
use Rattle.tables_names.specs.inner.Closure.{Holds}
use Rattle.tables_names.specs.Rank.{is_member}
use Rattle.tables_rows.specs.Stands.{StringStands, TypeStands, ProtoStands, FieldStands, MethodStands, NameStands, TypesAt}

-- A number for each row of the five tables, and one after the last.
pub record Columns : Type 0 where
  pub strings : List ℕ
  pub types : List ℕ
  pub protos : List ℕ
  pub fields : List ℕ
  pub methods : List ℕ

-- Of each row whether it is marked, and the offsets of the lists whose types are marked.
pub record Marked : Type 0 where
  pub columns : Columns
  pub lists : List ℕ

-- A mark for each of n rows, 1 or 0, and a 0 after the last.
pub record IsColumn (n : ℕ) (column : List ℕ) : Type 0 where
  pub long : length column ≡ n + 1
  pub few : n < 2 ^ 32
  pub small : (i : ℕ) → slice_index column i ≤ 1
  pub last : slice_index column n ≡ 0

-- one of these offsets
abbrev pub IsOneOf : List ℕ → ℕ → Type 0
IsOneOf offsets off = list_any (nat_eq off) offsets ≡ true

-- A row that has this key is marked.
pub record HasMark {V : Type 0} (Stands : ℕ → V → Type 0) (key : V → Key) (column : List ℕ) (k : Key) : Type 0 where
  pub row : ℕ
  pub name : V
  pub stands : Stands row name
  pub named : k ≡ key name
  pub marked : slice_index column row ≡ 1

-- Of n rows those are marked whose names, by Stands, have their keys in the set.
pub record MarksOf {V : Type 0} (n : ℕ) (Stands : ℕ → V → Type 0) (key : V → Key) (set : List Key) (column : List ℕ) : Type 0 where
  pub shape : IsColumn n column
  pub held : (i : ℕ) (v : V) → Stands i v → slice_index column i ≡ 1 → is_member set (key v) ≡ true
  pub rows : (k : Key) → is_member set k ≡ true → HasMark Stands key column k

-- Of a framed file just the rows of these names are marked, and with each name its parts are among them.
pub record AreMarks (b : List ℕ) (m : Marked) (s : Five) : Type 0 where
  pub framed : IsFramed b
  pub closed : IsClosed s
  pub rise : AreRising s
  pub strings : MarksOf (size_of b section.string_ids) (StringStands b) text_key s.strings m.columns.strings
  pub types : MarksOf (size_of b section.type_ids) (TypeStands b) text_key s.types m.columns.types
  pub protos : MarksOf (size_of b section.proto_ids) (ProtoStands b) proto_key s.protos m.columns.protos
  pub fields : MarksOf (size_of b section.field_ids) (FieldStands b) field_ref_key s.fields m.columns.fields
  pub methods : MarksOf (size_of b section.method_ids) (MethodStands b) method_ref_key s.methods m.columns.methods
  pub lists : (off : ℕ) (ts : List Units) → IsOneOf m.lists off → TypesAt b off ts → AllByRecursion (λ t. Holds s (OfDesc t)) ts

-- The marks are those of some names.
abbrev pub HasMarks : List ℕ → Marked → Type 0
HasMarks b m = (s : Five) × AreMarks b m s

-- Beside what was marked the rows of these names are, and those of their parts.
abbrev pub AddsNames : List ℕ → Marked → Marked → List Name → Type 0
AddsNames b old new names = (s : Five) → AreMarks b old s → AreMarks b new (with_names s names)

-- the table of a name's kind
abbrev pub kind_of : Name → IndexKind
kind_of (OfText s) = kind.String
kind_of (OfDesc t) = kind.Type
kind_of (OfField f) = kind.Field
kind_of (OfMethod m) = kind.Method

-- Row i of the table of a kind denotes this name.
pub record IsRowOf (b : List ℕ) (table : IndexKind) (i : ℕ) (which : Name) : Type 0 where
  pub kind : kind_of which ≡ table
  pub stands : NameStands b i which
