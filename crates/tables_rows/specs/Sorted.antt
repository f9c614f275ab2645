-- The five tables are valid: each row denotes a name, and is strictly above the row before (Dalvik Executable format,
-- "File layout": the orders of string_ids to method_ids).
use Rattle.std.specs.Prelude.{◌≡◌, ℕ, ◌+◌, ◌<◌, List, ◌∷◌}
use Rattle.std.specs.Cmp.Lexicographic.{slice_cmp}
use Rattle.std.specs.Ordering.{nat_cmp}
use Rattle.std.specs.declared.cmp.Ordering.TheVariants.{Less}
use Rattle.dex_container.specs.Layout.{size_of}
use Rattle.program_types.specs.Content.{Units}
use Rattle.dex_container.specs.Where.{AtOrNone}
use Rattle.dex_container.specs.Section as section
use Rattle.tables_rows.specs.RowFields.{type_string, proto_return, proto_parameters, member_indices}
use Rattle.tables_rows.specs.Stands.{StringStands, TypeStands, ProtoStands, FieldStands, MethodStands, SpellsIndexes}

-- the order of lists of numbers: the first that differs decides
abbrev pub IsBelow : List ℕ → List ℕ → Type 0
IsBelow xs ys = slice_cmp nat_cmp xs ys ≡ Less

-- Strings are in the order of their units.
abbrev pub StringIsBelow : List ℕ → ℕ → ℕ → Type 0
StringIsBelow b i j = (s t : Units) → StringStands b i s → StringStands b j t → IsBelow s t

-- Types are in the order of their strings' indices.
abbrev pub TypeIsBelow : List ℕ → ℕ → ℕ → Type 0
TypeIsBelow b i j = type_string b i < type_string b j

-- The indices that order protos: the return type's, then the parameters'.
pub record ProtoIndexes (b : List ℕ) (i : ℕ) (key : List ℕ) : Type 0 where
  pub indexes : List ℕ
  pub key_is : key ≡ proto_return b i ∷ indexes
  pub params : AtOrNone SpellsIndexes b 0x1001 4 (proto_parameters b i) indexes

-- Protos are in the order of these.
abbrev pub ProtoIsBelow : List ℕ → ℕ → ℕ → Type 0
ProtoIsBelow b i j = (x y : List ℕ) → ProtoIndexes b i x → ProtoIndexes b j y → IsBelow x y

-- Fields (k = 3) and methods (k = 4) are in the order of class, name, type or proto, by index.
abbrev pub MemberIsBelow : ℕ → List ℕ → ℕ → ℕ → Type 0
MemberIsBelow k b i j = IsBelow (member_indices b k i) (member_indices b k j)

-- The row before row i, if there is one, is below it.
abbrev pub RowRises : (List ℕ → ℕ → ℕ → Type 0) → List ℕ → ℕ → Type 0
RowRises Below b i = (j : ℕ) → j + 1 ≡ i → Below b j i

-- Row i denotes a name, and the row before it is below it.
pub record RowHolds {V : Type 0} (Stands : List ℕ → ℕ → V → Type 0) (Below : List ℕ → ℕ → ℕ → Type 0) (b : List ℕ) (i : ℕ) : Type 0 where
  pub name : V
  pub stands : Stands b i name
  pub rises : RowRises Below b i

-- The rows before this one hold.
abbrev pub RowsHold : (List ℕ → ℕ → Type 0) → List ℕ → ℕ → Type 0
RowsHold Holds b n = (i : ℕ) → i < n → Holds b i

-- All rows of table k hold.
abbrev pub AllRows : (List ℕ → ℕ → Type 0) → List ℕ → ℕ → Type 0
AllRows Holds b k = RowsHold Holds b (size_of b k)

-- All five tables hold: every row denotes a name, used or not, and the rows strictly rise.
pub record TablesHold (b : List ℕ) : Type 0 where
  pub strings : AllRows (RowHolds StringStands StringIsBelow) b section.string_ids
  pub types : AllRows (RowHolds TypeStands TypeIsBelow) b section.type_ids
  pub protos : AllRows (RowHolds ProtoStands ProtoIsBelow) b section.proto_ids
  pub fields : AllRows (RowHolds FieldStands (MemberIsBelow 3)) b section.field_ids
  pub methods : AllRows (RowHolds MethodStands (MemberIsBelow 4)) b section.method_ids
