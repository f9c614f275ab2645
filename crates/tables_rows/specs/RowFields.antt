-- The fields of a row of each table, as they are in the file (Dalvik Executable format, "string_id_item" to
-- "method_id_item"). Past the file's end a byte counts as 0.
use Rattle.std.specs.Prelude.{ℕ, ◌+◌, ◌*◌, List, [], ◌∷◌}
use Rattle.dex_base.specs.Fields.{u16_at, u32_at}
use Rattle.dex_container.specs.Layout.{row_bytes, offset_of}
use Rattle.dex_container.specs.Section as section

-- the place of row i of table k, the tables counted from 0: strings, types, protos, fields, methods, classes
abbrev pub row_place : List ℕ → ℕ → ℕ → ℕ
row_place b k i = offset_of b k + row_bytes k * i

-- string_data_off of row i
unfoldable pub string_place : List ℕ → ℕ → ℕ
string_place b i = u32_at b (row_place b section.string_ids i)

-- descriptor_idx of row i
unfoldable pub type_string : List ℕ → ℕ → ℕ
type_string b i = u32_at b (row_place b section.type_ids i)

-- shorty_idx of row i
unfoldable pub proto_shorty : List ℕ → ℕ → ℕ
proto_shorty b i = u32_at b (row_place b section.proto_ids i)

-- return_type_idx of row i
unfoldable pub proto_return : List ℕ → ℕ → ℕ
proto_return b i = u32_at b (row_place b section.proto_ids i + 4)

-- parameters_off of row i
unfoldable pub proto_parameters : List ℕ → ℕ → ℕ
proto_parameters b i = u32_at b (row_place b section.proto_ids i + 8)

-- class_idx of row i of the fields (k = 3) or the methods (k = 4)
unfoldable pub member_class : List ℕ → ℕ → ℕ → ℕ
member_class b k i = u16_at b (row_place b k i)

-- its type_idx (fields) or proto_idx (methods)
unfoldable pub member_kind : List ℕ → ℕ → ℕ → ℕ
member_kind b k i = u16_at b (row_place b k i + 2)

-- its name_idx
unfoldable pub member_name : List ℕ → ℕ → ℕ → ℕ
member_name b k i = u32_at b (row_place b k i + 4)

-- the indices by which such rows are ordered: class, name, type or proto
abbrev pub member_indices : List ℕ → ℕ → ℕ → List ℕ
member_indices b k i = member_class b k i ∷ member_name b k i ∷ member_kind b k i ∷ []
