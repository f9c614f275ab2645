-- The faults of the five tables: for each table the rules of a row, in the order in which they are checked. Each has a meaning for any
-- file; it is checked only if header, map and checksums, the tables before, and the rows before are valid.
use Rattle.std.specs.Prelude.{◌≡◌, ◌≢◌, ℕ, ◌<◌, List}
use Rattle.std.specs.List.{AllByRecursion}
use Rattle.dex_base.specs.declared.fault.Fault.{Fault}
use Rattle.dex_base.specs.FirstFault.{or_else, or_first}
use Rattle.dex_container.specs.Layout.{size_of}
use Rattle.dex_container.specs.Frame.{IsFramed}
use Rattle.program_types.specs.Content.{Units, Proto, FieldRef, MethodRef}
use Rattle.dex_container.specs.Where.{IsInSection}
use Rattle.dex_container.specs.Section as section
use Rattle.tables_rows.specs.RowFields.{row_place, string_place, type_string, proto_shorty, proto_return, proto_parameters, member_class, member_kind, member_name}
use Rattle.program_types.specs.Kinds.{void}
use Rattle.tables_rows.specs.Stands.{StringStands, TypeStands, TypesAt, ProtoStands, FieldStands, MethodStands}
use Rattle.tables_rows.specs.Sorted.{RowRises, RowHolds, StringIsBelow, TypeIsBelow, ProtoIsBelow, MemberIsBelow}

-- A row of string_ids holds: it denotes a string, above the row before by its units.
abbrev pub StringHolds : List ℕ → ℕ → Type 0
StringHolds = RowHolds StringStands StringIsBelow

-- A row of type_ids holds: it denotes a type, above the row before by string index.
abbrev pub TypeHolds : List ℕ → ℕ → Type 0
TypeHolds = RowHolds TypeStands TypeIsBelow

-- A row of proto_ids holds: it denotes a prototype, above the row before by type indices.
abbrev pub ProtoHolds : List ℕ → ℕ → Type 0
ProtoHolds = RowHolds ProtoStands ProtoIsBelow

-- A row of field_ids holds: it denotes a field, above the row before by the indices of class, name and type.
abbrev pub FieldHolds : List ℕ → ℕ → Type 0
FieldHolds = RowHolds FieldStands (MemberIsBelow 3)

-- A row of method_ids holds: it denotes a method, above the row before by the indices of class, name and prototype.
abbrev pub MethodHolds : List ℕ → ℕ → Type 0
MethodHolds = RowHolds MethodStands (MemberIsBelow 4)

-- The rule that row i of string_ids violates: the first, since each is checked only if those before it are satisfied.
unfoldable pub StringBreaks : List ℕ → ℕ → ℕ → Type 0
StringBreaks b i code =
    or_else 20 code (IsInSection b 0x2002 (string_place b i)) (
    or_else 21 code ((s : Units) × StringStands b i s) (
    or_else 22 code (RowRises StringIsBelow b i) ⊥))

-- The rule that row i of type_ids breaks. It denotes a type where its string is a descriptor.
unfoldable pub TypeBreaks : List ℕ → ℕ → ℕ → Type 0
TypeBreaks b i code =
    or_else 23 code (type_string b i < size_of b section.string_ids) (
    or_else 24 code ((t : Units) × TypeStands b i t) (
    or_else 25 code (RowRises TypeIsBelow b i) ⊥))

-- a list of parameters: types, and none of them void
pub record ParametersAt (b : List ℕ) (place : ℕ) (ts : List Units) : Type 0 where
  pub types : TypesAt b place ts
  pub values : AllByRecursion (λ t. t ≢ void) ts

-- The rule that row i of proto_ids breaks. It denotes a proto where its shorty is that of these types.
unfoldable pub ProtoBreaks : List ℕ → ℕ → ℕ → Type 0
ProtoBreaks b i code =
    or_else 26 code ((proto_shorty b i < size_of b section.string_ids) × (proto_return b i < size_of b section.type_ids)) (
    or_else 28 code ((ts : List Units) × ParametersAt b (proto_parameters b i) ts) (
    or_else 27 code ((p : Proto) × ProtoStands b i p) (
    or_else 29 code (RowRises ProtoIsBelow b i) ⊥)))

-- The three indices of row i of fields (k = 3) and methods (k = 4) are in their tables: class, type or proto, name.
pub record MemberIsIn (b : List ℕ) (k kinds i : ℕ) : Type 0 where
  pub class : member_class b k i < size_of b section.type_ids
  pub kind : member_kind b k i < size_of b kinds
  pub name : member_name b k i < size_of b section.string_ids

-- The rule that row i of field_ids breaks. It denotes a field where class, type and name are of their kinds.
unfoldable pub FieldBreaks : List ℕ → ℕ → ℕ → Type 0
FieldBreaks b i code =
    or_else 30 code (MemberIsIn b section.field_ids section.type_ids i) (
    or_else 31 code ((f : FieldRef) × FieldStands b i f) (
    or_else 32 code (RowRises (MemberIsBelow 3) b i) ⊥))

-- The rule that row i of method_ids breaks. It denotes a method where class and name are of their kinds.
unfoldable pub MethodBreaks : List ℕ → ℕ → ℕ → Type 0
MethodBreaks b i code =
    or_else 33 code (MemberIsIn b section.method_ids section.proto_ids i) (
    or_else 34 code ((m : MethodRef) × MethodStands b i m) (
    or_else 35 code (RowRises (MemberIsBelow 4) b i) ⊥))

-- Row i of table k breaks a rule, and this is the fault, at the row.
pub record BreaksAt (Breaks : List ℕ → ℕ → ℕ → Type 0) (b : List ℕ) (k i : ℕ) (fault : Fault) : Type 0 where
  pub breaks : Breaks b i fault.code
  pub place : fault.place ≡ row_place b k i

-- A line of a list of rules: the first fault of table k, or its rows hold and the rest has the fault.
abbrev pub or_table : (List ℕ → ℕ → ℕ → Type 0) → (List ℕ → ℕ → Type 0) → List ℕ → ℕ → Fault → Type 0 → Type 0
or_table Breaks Holds b k = or_first (size_of b k) (Holds b) (BreaksAt Breaks b k)

-- The first fault of the first table that has one, or all tables hold and the rest has the fault.
abbrev pub or_tables : List ℕ → Fault → Type 0 → Type 0
or_tables b fault after =
    or_table StringBreaks StringHolds b section.string_ids fault (
    or_table TypeBreaks TypeHolds b section.type_ids fault (
    or_table ProtoBreaks ProtoHolds b section.proto_ids fault (
    or_table FieldBreaks FieldHolds b section.field_ids fault (
    or_table MethodBreaks MethodHolds b section.method_ids fault after))))

-- The fault of the tables of a framed file.
abbrev pub IsTableFault : List ℕ → Fault → Type 0
IsTableFault b fault = IsFramed b × or_tables b fault ⊥
