-- The places and values of the fields of header_item and of the entries of map_list
-- (Dalvik Executable format, "header_item" and "map_list").
use Rattle.std.specs.Prelude.{ℕ, ◌+◌, ◌*◌, List, ◌∷◌, [], slice_index}
use Rattle.dex_base.specs.Fields.{u16_at, u32_at}

-- The seven sections that the header names, in its order: the tables string_ids, type_ids, proto_ids, field_ids,
-- method_ids and class_defs, and the data section. So many bytes does a row of section k take; the data
-- section's rows are bytes.
abbrev pub row_bytes : ℕ → ℕ
row_bytes k = slice_index (4 ∷ 4 ∷ 12 ∷ 8 ∷ 8 ∷ 32 ∷ 1 ∷ []) k

-- where the header has section k's size
abbrev pub size_field : ℕ → ℕ
size_field k = 56 + 8 * k

-- how many rows section k has
unfoldable pub size_of : List ℕ → ℕ → ℕ
size_of b k = u32_at b (56 + 8 * k)

-- where section k begins
unfoldable pub offset_of : List ℕ → ℕ → ℕ
offset_of b k = u32_at b (60 + 8 * k)

-- where the data section begins
abbrev pub data_begin : List ℕ → ℕ
data_begin b = offset_of b 6

-- where the data section ends
abbrev pub data_end : List ℕ → ℕ
data_end b = offset_of b 6 + size_of b 6

-- the place of the map
unfoldable pub map_place : List ℕ → ℕ
map_place b = u32_at b 52

-- how many entries it has
unfoldable pub entry_count : List ℕ → ℕ
entry_count b = u32_at b (map_place b)

-- the place of its entry i
abbrev pub entry_place : List ℕ → ℕ → ℕ
entry_place b i = map_place b + 4 + 12 * i

-- where its entries end
abbrev pub map_end : List ℕ → ℕ
map_end b = map_place b + 4 + 12 * entry_count b

-- the kind of item that entry i names
unfoldable pub kind_at : List ℕ → ℕ → ℕ
kind_at b i = u16_at b (entry_place b i)

-- how many items of the kind there are, by entry i
unfoldable pub items_at : List ℕ → ℕ → ℕ
items_at b i = u32_at b (entry_place b i + 4)

-- where they begin, by entry i
unfoldable pub place_at : List ℕ → ℕ → ℕ
place_at b i = u32_at b (entry_place b i + 8)
