-- The names of a file's tables as sets, and what a file of a program holds.
-- Page: "Dalvik Executable format", "File layout": string_ids to method_ids are sorted and have no duplicates.
use Rattle.std.specs.Prelude.{◌≡◌, ℕ, ◌≤◌, List, map, length, true}
use Rattle.std.specs.List.{AllByRecursion}
use Rattle.dex_container.specs.Frame.{IsFramed}
use Rattle.dex_container.specs.Layout.{size_of}
use Rattle.dex_container.specs.Section as section
use Rattle.program_types.specs.Content.{Units, Proto, FieldRef, MethodRef, Name, Program}
use Rattle.program_types.specs.Key.{text_key, proto_key, field_ref_key, method_ref_key}
use Rattle.tables_names.specs.Rank.{rank_of, is_member}
use Rattle.tables_names.specs.Closure.{Five, AreRising, IsClosed, IsPart}
use Rattle.tables_names.specs.inner.Closure.{Holds}
use Rattle.tables_rows.specs.Names.{Names, AreNamesOf}
use Rattle.program_types.specs.Mentions.{mentions}
use Rattle.tables_names.specs.Needed.{needed}
use Rattle.tables_rows.specs.Sorted.{TablesHold}
use Rattle.tables_rows.specs.Stands.{StringStands, TypeStands, ProtoStands, FieldStands, MethodStands, HasRow}

-- the keys of names, row by row
abbrev pub five_of : Names → Five
five_of names = record {
  strings = map text_key names.strings;
  types = map text_key names.types;
  protos = map proto_key names.protos;
  fields = map field_ref_key names.fields;
  methods = map method_ref_key names.methods;
}

-- Where the tables hold, each row denotes a name.
abbrev pub TablesHaveNames : Type 0
TablesHaveNames = (b : List ℕ) → TablesHold b → (names : Names) × AreNamesOf b names

-- The names of each table rise: order by indices is order by names.
abbrev pub NamesRise : Type 0
NamesRise = (b : List ℕ) (names : Names) → IsFramed b → TablesHold b → AreNamesOf b names → AreRising (five_of names)

-- With each name its parts are in the tables.
abbrev pub NamesAreClosed : Type 0
NamesAreClosed = (b : List ℕ) (names : Names) → IsFramed b → AreNamesOf b names → IsClosed (five_of names)

-- A file has a row for each name that a program mentions.
abbrev pub IsMentionedIn : Program → List ℕ → Type 0
IsMentionedIn p b = AllByRecursion (HasRow b) (mentions p)

-- The tables are at least as long as these sets, and no name's row is before its rank in them.
pub record AreNoShorter (b : List ℕ) (s : Five) : Type 0 where
  pub strings : length s.strings ≤ size_of b section.string_ids
  pub types : length s.types ≤ size_of b section.type_ids
  pub protos : length s.protos ≤ size_of b section.proto_ids
  pub fields : length s.fields ≤ size_of b section.field_ids
  pub methods : length s.methods ≤ size_of b section.method_ids
  pub string_rank : (i : ℕ) (t : Units) → StringStands b i t → rank_of s.strings (text_key t) ≤ i
  pub type_rank : (i : ℕ) (t : Units) → TypeStands b i t → rank_of s.types (text_key t) ≤ i
  pub proto_rank : (i : ℕ) (p : Proto) → ProtoStands b i p → rank_of s.protos (proto_key p) ≤ i
  pub field_rank : (i : ℕ) (f : FieldRef) → FieldStands b i f → rank_of s.fields (field_ref_key f) ≤ i
  pub method_rank : (i : ℕ) (m : MethodRef) → MethodStands b i m → rank_of s.methods (method_ref_key m) ≤ i

-- A file that has a row for each name that a program mentions holds all that the program needs.
abbrev pub FilesHoldNeeded : Type 0
FilesHoldNeeded = (b : List ℕ) (names : Names) (p : Program) → IsFramed b → AreNamesOf b names → IsMentionedIn p b → IsPart (needed p) (five_of names)

-- The tables of a file that has a row for each name that a program mentions are no shorter than what the program needs.
abbrev pub FilesAreNoShorter : Type 0
FilesAreNoShorter = (b : List ℕ) (p : Program) → IsFramed b → TablesHold b → IsMentionedIn p b → AreNoShorter b (needed p)

-- Each name of these sets has a row.
pub record HaveRowsIn (b : List ℕ) (s : Five) : Type 0 where
  pub names : (name : Name) → Holds s name → HasRow b name
  pub protos : (p : Proto) → is_member s.protos (proto_key p) ≡ true → (i : ℕ) × ProtoStands b i p

-- A file that has a row for each name that a program mentions has one for each name that the program needs.
abbrev pub NeededHasRows : Type 0
NeededHasRows = (b : List ℕ) (p : Program) → IsFramed b → TablesHold b → IsMentionedIn p b → HaveRowsIn b (needed p)
