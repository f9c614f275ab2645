-- Names by index, as a writer of the five tables needs them: which indices a row has, that there is a row for every name
-- that is held, and that the rows rise.
-- Page: "Dalvik Executable format": type_id_item, proto_id_item, field_id_item and method_id_item, and in "File layout" the
-- orders of type_ids, proto_ids, field_ids and method_ids, which are stated by these indices.
use Rattle.std.specs.Prelude.{◌≡◌, ℕ, ◌<◌, ◌≤◌, ◌^◌, List, [], ◌∷◌, length, Option, Some}
use Rattle.std.specs.Ordering.{nat_cmp}
use Rattle.std.specs.Cmp.Lexicographic.{slice_cmp}
use Rattle.std.specs.declared.cmp.Ordering.TheVariants.{Less}
use Rattle.std.specs.List.{AllZip, AllByRecursion}
use Rattle.program_types.specs.Content.{Units, Descriptor, Proto, FieldRef, MethodRef, Program}
use Rattle.program_types.specs.Key.{Key, text_key, proto_key, field_ref_key, method_ref_key}
use Rattle.program_types.specs.Shorty.{shorty}
use Rattle.tables_names.specs.Rank.{Rising, LookUpAnswers, IsAt}
use Rattle.tables_names.specs.Closure.{Five, IsClosed, AreRising, NameRanks}
use Rattle.program_types.specs.Mentions.{mentions}
use Rattle.tables_names.specs.Needed.{needed}

-- a key has an index
abbrev pub HasRank : List Key → Key → Type 0
HasRank table k = (i : ℕ) × IsAt table i k

-- the indices of these texts, one by one
abbrev pub AreIndices : List Key → List ℕ → List Units → Type 0
AreIndices table row texts = AllZip (λ i text. IsAt table i (text_key text)) row texts

-- the indices by which a proto is ordered: its return type's, then its parameters'
abbrev pub IsProtoRow : Five → Proto → List ℕ → Type 0
IsProtoRow s p row = AreIndices s.types row (p.ret ∷ p.params)

-- the indices by which a field is ordered: class, name, type
pub record IsFieldRow (s : Five) (f : FieldRef) (row : List ℕ) : Type 0 where
  pub class : ℕ
  pub name : ℕ
  pub ty : ℕ
  pub row_is : row ≡ class ∷ name ∷ ty ∷ []
  pub class_is : IsAt s.types class (text_key f.class)
  pub name_is : IsAt s.strings name (text_key f.name)
  pub ty_is : IsAt s.types ty (text_key f.ty)

-- the indices by which a method is ordered: class, name, proto
pub record IsMethodRow (s : Five) (m : MethodRef) (row : List ℕ) : Type 0 where
  pub class : ℕ
  pub name : ℕ
  pub proto : ℕ
  pub row_is : row ≡ class ∷ name ∷ proto ∷ []
  pub class_is : IsAt s.types class (text_key m.class)
  pub name_is : IsAt s.strings name (text_key m.name)
  pub proto_is : IsAt s.protos proto (proto_key m.proto)

-- Every name that is held has a row: its parts have indices.
pub record HaveRows (s : Five) : Type 0 where
  pub types : (i : ℕ) (t : Descriptor) → IsAt s.types i (text_key t) → HasRank s.strings (text_key t)
  pub shorties : (i : ℕ) (p : Proto) → IsAt s.protos i (proto_key p) → HasRank s.strings (text_key (shorty p))
  pub protos : (i : ℕ) (p : Proto) → IsAt s.protos i (proto_key p) → (row : List ℕ) × IsProtoRow s p row
  pub fields : (i : ℕ) (f : FieldRef) → IsAt s.fields i (field_ref_key f) → (row : List ℕ) × IsFieldRow s f row
  pub methods : (i : ℕ) (m : MethodRef) → IsAt s.methods i (method_ref_key m) → (row : List ℕ) × IsMethodRow s m row

-- Of two names the one with the lower index has the lesser row: the first index that differs decides.
abbrev pub RowsRise : {V : Type 0} → (V → Key) → (V → List ℕ → Type 0) → List Key → Type 0
RowsRise {V} key IsRow table =
    (i j : ℕ) (v w : V) (row next : List ℕ) → i < j → IsAt table i (key v) → IsAt table j (key w) → IsRow v row → IsRow w next → slice_cmp nat_cmp row next ≡ Less

-- In each of the tables above the strings the rows strictly rise.
pub record TablesRise (s : Five) : Type 0 where
  pub types : (i j a b : ℕ) (t u : Descriptor) → i < j → IsAt s.types i (text_key t) → IsAt s.types j (text_key u) → IsAt s.strings a (text_key t) → IsAt s.strings b (text_key u) → a < b
  pub protos : RowsRise proto_key (IsProtoRow s) s.protos
  pub fields : RowsRise field_ref_key (IsFieldRow s) s.fields
  pub methods : RowsRise method_ref_key (IsMethodRow s) s.methods

-- Names that are held with their parts have rows.
abbrev pub ClosedHaveRows : Type 0
ClosedHaveRows = (s : Five) → IsClosed s → HaveRows s

-- Where names rise, rows do.
abbrev pub RisingTablesRise : Type 0
RisingTablesRise = (s : Five) → AreRising s → TablesRise s

-- A look-up of a key that is held answers its index, where all indices have 32 bits.
abbrev pub LookUpsAnswer : Type 0
LookUpsAnswer = (table : List Key) (i : ℕ) (k : Key) (r : Option ℕ) → Rising table → length table ≤ 2 ^ 32 → IsAt table i k → LookUpAnswers table k r → r ≡ Some i

-- Each name that a program mentions has an index among those that it needs.
abbrev pub MentionsHaveIndices : Type 0
MentionsHaveIndices = (p : Program) → AllByRecursion (λ name. (i : ℕ) × NameRanks (needed p) i name) (mentions p)
