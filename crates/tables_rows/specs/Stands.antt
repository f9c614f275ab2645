-- Which name a row of a table denotes (Dalvik Executable format, "string_id_item" to "method_id_item", "type_list").
use Rattle.std.specs.Prelude.{◌≡◌, ◌≢◌, ℕ, ◌^◌, ◌<◌, ◌⊎◌, List, length, ◌++◌}
use Rattle.std.specs.List.{AllZip, AllByRecursion}
use Rattle.dex_base.specs.Fields.{u32_bytes}
use Rattle.dex_base.specs.Words.{halves_bytes}
use Rattle.dex_base.specs.Mutf8.{SpellsText}
use Rattle.dex_base.specs.Descriptor.{IsDescriptor, IsClass, IsArray, IsMemberName}
use Rattle.dex_container.specs.Layout.{size_of}
use Rattle.program_types.specs.Content.{Units, Proto, FieldRef, MethodRef, Name, OfText, OfDesc, OfField, OfMethod}
use Rattle.program_types.specs.Kinds.{void}
use Rattle.program_types.specs.Shorty.{shorty}
use Rattle.dex_container.specs.Where.{At, AtOrNone}
use Rattle.dex_container.specs.Section as section
use Rattle.tables_rows.specs.RowFields.{string_place, type_string, proto_shorty, proto_return, proto_parameters, member_class, member_kind, member_name}

-- Row i of the strings: the text of its string_data_item.
pub record StringStands (b : List ℕ) (i : ℕ) (s : Units) : Type 0 where
  pub row : i < size_of b section.string_ids
  pub text : At SpellsText b 0x2002 1 (string_place b i) s

-- Row i of the types: its string, a descriptor.
pub record TypeStands (b : List ℕ) (i : ℕ) (t : Units) : Type 0 where
  pub row : i < size_of b section.type_ids
  pub string : StringStands b (type_string b i) t
  pub descriptor : IsDescriptor t

-- A type_list: a count of four bytes, then so many type indices of two bytes.
pub record SpellsIndexes (bytes indexes : List ℕ) : Type 0 where
  pub spelled : bytes ≡ u32_bytes (length indexes) ++ halves_bytes indexes
  pub small : AllByRecursion (λ i. i < 2 ^ 16) indexes
  pub few : length indexes < 2 ^ 32

-- A type_list whose indices denote these types.
pub record SpellsTypes (T : ℕ → Units → Type 0) (bytes : List ℕ) (ts : List Units) : Type 0 where
  pub indexes : List ℕ
  pub spelled : SpellsIndexes bytes indexes
  pub named : AllZip T indexes ts

-- The list of types at an offset, 0 for the empty one, whose indices denote types so.
abbrev pub ListAt : (ℕ → Units → Type 0) → List ℕ → ℕ → List Units → Type 0
ListAt T b place ts = AtOrNone (SpellsTypes T) b 0x1001 4 place ts

-- The list of types at an offset, by the rows of its file.
abbrev pub TypesAt : List ℕ → ℕ → List Units → Type 0
TypesAt b place ts = ListAt (TypeStands b) b place ts

-- Row i of the protos: return type, parameters that are not void, and the shorty of these.
pub record ProtoStands (b : List ℕ) (i : ℕ) (p : Proto) : Type 0 where
  pub row : i < size_of b section.proto_ids
  pub ret : TypeStands b (proto_return b i) p.ret
  pub params : TypesAt b (proto_parameters b i) p.params
  pub values : AllByRecursion (λ t. t ≢ void) p.params
  pub shorty : StringStands b (proto_shorty b i) (shorty p)

-- Row i of the fields: a class type, a type that is not void, a member name.
pub record FieldStands (b : List ℕ) (i : ℕ) (f : FieldRef) : Type 0 where
  pub row : i < size_of b section.field_ids
  pub class : TypeStands b (member_class b section.field_ids i) f.class
  pub ty : TypeStands b (member_kind b section.field_ids i) f.ty
  pub name : StringStands b (member_name b section.field_ids i) f.name
  pub of_class : IsClass f.class
  pub value : f.ty ≢ void
  pub named : IsMemberName f.name

-- Row i of the methods: a class or array type, a proto, a member name.
pub record MethodStands (b : List ℕ) (i : ℕ) (m : MethodRef) : Type 0 where
  pub row : i < size_of b section.method_ids
  pub class : TypeStands b (member_class b section.method_ids i) m.class
  pub proto : ProtoStands b (member_kind b section.method_ids i) m.proto
  pub name : StringStands b (member_name b section.method_ids i) m.name
  pub of_class : IsClass m.class ⊎ IsArray m.class
  pub named : IsMemberName m.name

-- Index i, in the table of the name's kind, denotes the name in this file.
abbrev pub NameStands : List ℕ → ℕ → Name → Type 0
NameStands b i (OfText s) = StringStands b i s
NameStands b i (OfDesc t) = TypeStands b i t
NameStands b i (OfField f) = FieldStands b i f
NameStands b i (OfMethod m) = MethodStands b i m

-- The file has a row for this name.
abbrev pub HasRow : List ℕ → Name → Type 0
HasRow b name = (i : ℕ) × NameStands b i name
