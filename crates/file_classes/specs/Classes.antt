-- Which class a row of class_defs encodes (Dalvik Executable format, "class_def_item", "class_data_item"), in the parts that
-- are checked one after the other: the head, the static values, the code.
use Rattle.std.specs.Prelude.{◌≡◌, ℕ, ◌==◌, List, [], length, Option, Some, None, MatchBool}
use Rattle.std.specs.List.{AllByRecursion, slice_get}
use Rattle.dex_base.specs.Descriptor.{IsClass}
use Rattle.program_types.specs.Content.{Units, Value, Code, Member, Method, Class}
use Rattle.tables_rows.specs.Stands.{StringStands, TypeStands, TypesAt, FieldStands, MethodStands, NameStands}
use Rattle.dex_value.specs.Standing.{ArrayStands}
use Rattle.code_read.specs.Code.{CodeStands}
use Rattle.file_classes.specs.ClassRows.{IndexOrNone, access_flags, class_data_off, class_idx, interfaces_off, source_file_idx, static_values_off, superclass_idx}
use Rattle.file_classes.specs.ClassData.{FieldEntry, MethodEntry, Entries, EntriesAt, EntriesAre, field_flags, method_flags, code_off}

-- The names and flags of the row.
pub record RowIs (b : List ℕ) (i : ℕ) (ty : Units) (flags : ℕ) (superclass source : Option Units) : Type 0 where
  pub named : TypeStands b (class_idx b i) ty
  pub class : IsClass ty
  pub flagged : flags ≡ access_flags b i
  pub above : IndexOrNone (TypeStands b) (superclass_idx b i) superclass
  pub above_class : (t : Units) → superclass ≡ Some t → IsClass t
  pub written_in : IndexOrNone (StringStands b) (source_file_idx b i) source

-- No type occurs twice.
abbrev pub NoTypeTwice : List Units → Type 0
NoTypeTwice ts = (j k : ℕ) (t : Units) → slice_get ts j ≡ Some t → slice_get ts k ≡ Some t → j ≡ k

-- Distinct class types at an offset.
pub record InterfacesAt (b : List ℕ) (place : ℕ) (ts : List Units) : Type 0 where
  pub types : TypesAt b place ts
  pub classes : AllByRecursion IsClass ts
  pub distinct : NoTypeTwice ts

-- The entry with this index is this field of the class.
pub record IsField (b : List ℕ) (class : Units) (index : ℕ) (e : FieldEntry) (m : Member) : Type 0 where
  pub field : FieldStands b index (record { class = class; name = m.name; ty = m.ty })
  pub flags : m.flags ≡ field_flags e

-- The entry with this index is this method of the class, its code aside.
pub record IsMethod (b : List ℕ) (class : Units) (index : ℕ) (e : MethodEntry) (m : Method) : Type 0 where
  pub method : MethodStands b index (record { class = class; name = m.name; proto = m.proto })
  pub flags : m.flags ≡ method_flags e

-- The four lists.
pub record MembersAre (b : List ℕ) (e : Entries) (c : Class) : Type 0 where
  pub statics : EntriesAre (IsField b c.ty) e.statics c.statics
  pub instances : EntriesAre (IsField b c.ty) e.instances c.instances
  pub directs : EntriesAre (IsMethod b c.ty) e.directs c.directs
  pub virtuals : EntriesAre (IsMethod b c.ty) e.virtuals c.virtuals

-- All but static values and code.
pub record HeadIs (b : List ℕ) (i : ℕ) (e : Entries) (c : Class) : Type 0 where
  pub row : RowIs b i c.ty c.flags c.superclass c.source
  pub interfaces : InterfacesAt b (interfaces_off b i) c.interfaces
  pub class_data : EntriesAt b (class_data_off b i) e
  pub members : MembersAre b e c

-- The values at an offset, none at 0.
abbrev pub StaticsAt : List ℕ → ℕ → ℕ → List Value → Type 0
StaticsAt b place most vs = MatchBool (place == 0) (vs ≡ []) (ArrayStands (NameStands b) b place most vs)

-- The code at an offset, none at 0.
pub record SomeCodeStands (b : List ℕ) (place : ℕ) (code : Option Code) : Type 0 where
  pub some : Code
  pub is : code ≡ Some some
  pub stands : CodeStands (NameStands b) b place some

-- No code at offset 0, otherwise the code item there.
abbrev pub CodeAt : List ℕ → ℕ → Option Code → Type 0
CodeAt b place code = MatchBool (place == 0) (code ≡ None) (SomeCodeStands b place code)

-- Each of the methods has the code of its entry.
abbrev pub CodesAre : List ℕ → List MethodEntry → List Method → Type 0
CodesAre b es ms = (k : ℕ) (e : MethodEntry) (m : Method) → slice_get es k ≡ Some e → slice_get ms k ≡ Some m → CodeAt b (code_off e) m.code

-- Row i encodes the class.
pub record SpellsClass (b : List ℕ) (i : ℕ) (c : Class) : Type 0 where
  pub entries : Entries
  pub head : HeadIs b i entries c
  pub values : StaticsAt b (static_values_off b i) (length entries.statics) c.values
  pub directs : CodesAre b entries.directs c.directs
  pub virtuals : CodesAre b entries.virtuals c.virtuals
