-- Which bytes have a header and a map as the format requires (Dalvik Executable format, "header_item" and "map_list"),
-- with the rules that this library adds: docs/FORMAT.md has them all in words.
use Rattle.std.specs.Prelude.{◌⊎◌, ◌-◌, nat_lt, min, ◌&&◌, if◌then◌else◌, ◌≡◌, ◌≢◌, ℕ, ◌+◌, ◌*◌, ◌%◌, ◌<◌, ◌≤◌, List, length, take, drop, slice_index}
use Rattle.dex_base.specs.Fields.{u16_at, u32_at}
use Rattle.dex_base.specs.Adler32.{adler32}
use Rattle.sha1.specs.Sha1.{sha1}
use Rattle.dex_container.specs.Layout.{row_bytes, size_of, offset_of, data_begin, data_end, map_place, entry_count, map_end, kind_at, items_at, place_at}
use Rattle.dex_container.specs.Section as section

-- the bytes 0 to 3 are `dex` and a line feed, and byte 7 is 0
pub record HasMagic (b : List ℕ) : Type 0 where
  pub dex : u32_at b 0 ≡ 0x0a786564
  pub zero : slice_index b 7 ≡ 0

-- the bytes 4 to 6 are `035`
pub record HasVersion (b : List ℕ) : Type 0 where
  pub front : u16_at b 4 ≡ 0x3330
  pub back : slice_index b 6 ≡ 0x35

-- The header's fields hold: magic, version, file_size, header_size, endian_tag, and no link section.
pub record HeaderHolds (b : List ℕ) : Type 0 where
  pub long : 112 ≤ length b
  pub magic : HasMagic b
  pub version : HasVersion b
  pub file_size : u32_at b 32 ≡ length b
  pub header_size : u32_at b 36 ≡ 112
  pub endian : u32_at b 40 ≡ 0x12345678
  pub unlinked : u32_at b 44 ≡ 0

-- The number at byte 8 is the Adler-32 checksum of all after it.
unfoldable pub HasChecksum : List ℕ → Type 0
HasChecksum b = u32_at b 8 ≡ adler32 (drop 12 b)

-- The bytes 12 to 31 are the SHA-1 signature of all after them.
unfoldable pub HasSignature : List ℕ → Type 0
HasSignature b = take 20 (drop 12 b) ≡ sha1 (drop 32 b)

-- The checksum and the signature hold.
pub record SumsHold (b : List ℕ) : Type 0 where
  pub checksum : HasChecksum b
  pub signature : HasSignature b

-- A section of size above 0 is after the header and within the file, a table 4-aligned.
pub record SectionIsPlaced (b : List ℕ) (k : ℕ) : Type 0 where
  pub aligned : k < 6 → offset_of b k % 4 ≡ 0
  pub after : 112 ≤ offset_of b k
  pub within : offset_of b k + row_bytes k * size_of b k ≤ length b

-- Section k is empty, or placed so. The offset of an empty one is ignored.
abbrev pub SectionHolds : List ℕ → ℕ → Type 0
SectionHolds b k = 0 < size_of b k → SectionIsPlaced b k

-- Section k has at most 65535 rows.
abbrev pub HasFewRows : List ℕ → ℕ → Type 0
HasFewRows b k = size_of b k ≤ 65535

-- All sections are placed so, and types and protos have few rows.
pub record SectionsHold (b : List ℕ) : Type 0 where
  pub each : (k : ℕ) → k < 7 → SectionHolds b k
  pub types : HasFewRows b section.type_ids
  pub protos : HasFewRows b section.proto_ids

-- The map is 4-aligned in the data section, with all its entries.
pub record MapIsPlaced (b : List ℕ) : Type 0 where
  pub aligned : map_place b % 4 ≡ 0
  pub after : data_begin b ≤ map_place b
  pub within : map_end b ≤ data_end b

-- the kinds that the map may name
abbrev pub IsKind : ℕ → Type 0
IsKind kind =
    (kind ≤ 6) ⊎ (((0x1000 ≤ kind) × (kind ≤ 0x1003)) ⊎ (((0x2000 ≤ kind) × (kind ≤ 0x2006)) ⊎ (kind ≡ 0xF000)))

-- The items of entry i end before this: the place of the next entry.
abbrev pub EndsBeforeNext : List ℕ → ℕ → ℕ → Type 0
EndsBeforeNext b i end = i + 1 < entry_count b → end ≤ place_at b (i + 1)

-- If entry i names the header, that is one item at 0.
abbrev pub HeaderEntryHolds : List ℕ → ℕ → Type 0
HeaderEntryHolds b i = kind_at b i ≡ 0 → (place_at b i ≡ 0) × (items_at b i ≡ 1)

-- Entry i has the header's values for table k, and the table ends before the next entry's items.
pub record IsTableEntry (b : List ℕ) (i k : ℕ) : Type 0 where
  pub items : items_at b i ≡ size_of b k
  pub place : place_at b i ≡ offset_of b k
  pub ends : EndsBeforeNext b i (offset_of b k + row_bytes k * size_of b k)

-- If entry i names a table, it is that table's entry.
abbrev pub TableEntryHolds : List ℕ → ℕ → Type 0
TableEntryHolds b i = (k : ℕ) → k < 6 → kind_at b i ≡ k + 1 → IsTableEntry b i k

-- Entry i names one map where the header has it, and the map ends before the next entry's items.
pub record IsMapEntry (b : List ℕ) (i : ℕ) : Type 0 where
  pub items : items_at b i ≡ 1
  pub place : place_at b i ≡ map_place b
  pub ends : EndsBeforeNext b i (map_end b)

-- If entry i names the map, it is the map's own entry.
abbrev pub MapEntryHolds : List ℕ → ℕ → Type 0
MapEntryHolds b i = kind_at b i ≡ 0x1000 → IsMapEntry b i

-- If entry i names items of the data section, they begin in it.
abbrev pub DataEntryHolds : List ℕ → ℕ → Type 0
DataEntryHolds b i = 0x1000 ≤ kind_at b i → (data_begin b ≤ place_at b i) × (place_at b i < data_end b)

-- Entry i keeps the rules: a known kind, named once; offsets rise; some items; the header first; and the rules of
-- its kind.
pub record EntryHolds (b : List ℕ) (i : ℕ) : Type 0 where
  pub known : IsKind (kind_at b i)
  pub once : (j : ℕ) → j < i → kind_at b j ≢ kind_at b i
  pub rising : (j : ℕ) → j + 1 ≡ i → place_at b j < place_at b i
  pub some : 0 < items_at b i
  pub first : i ≡ 0 → kind_at b i ≡ 0
  pub header : HeaderEntryHolds b i
  pub table : TableEntryHolds b i
  pub map : MapEntryHolds b i
  pub inside : DataEntryHolds b i

-- Each entry keeps the rules.
abbrev pub EntriesHold : List ℕ → Type 0
EntriesHold b = (i : ℕ) → i < entry_count b → EntryHolds b i

-- Some entry of the map is of this kind.
abbrev pub HasKind : List ℕ → ℕ → Type 0
HasKind b kind = (i : ℕ) × (i < entry_count b) × (kind_at b i ≡ kind)

-- The map is placed, its entries keep the rules, and it names itself and each table that has rows.
pub record MapHolds (b : List ℕ) : Type 0 where
  pub placed : MapIsPlaced b
  pub each : EntriesHold b
  pub map : HasKind b 0x1000
  pub tables : (k : ℕ) → k < 6 → 0 < size_of b k → HasKind b (k + 1)

-- The bytes are framed: all of the above.
pub record IsFramed (b : List ℕ) : Type 0 where
  pub header : HeaderHolds b
  pub sums : SumsHold b
  pub sections : SectionsHold b
  pub map : MapHolds b

-- How many rows the table of this kind has and where it stands: 0 and 0 where it has no row, or for a kind that
-- is no table's. The map numbers the tables from 1.
abbrev pub table_of : List ℕ → ℕ → ℕ × ℕ
table_of b kind =
    if nat_lt 0 kind && nat_lt kind 7 && nat_lt 0 (size_of b (kind - 1))
    then (size_of b (kind - 1), offset_of b (kind - 1))
    else (0, 0)

-- where what entry i of the map names ends
abbrev pub end_at : List ℕ → ℕ → ℕ
end_at b i = if nat_lt (i + 1) (entry_count b) then min (place_at b (i + 1)) (data_end b) else data_end b

-- The section of this kind of data item begins and ends here: from its entry's offset to the next entry's offset or
-- the data section's end, whichever is lower.
pub record IsSection (b : List ℕ) (kind begin end : ℕ) : Type 0 where
  pub entry : ℕ
  pub in_map : entry < entry_count b
  pub of_data : 0x1000 ≤ kind
  pub named : kind_at b entry ≡ kind
  pub begins : begin ≡ place_at b entry
  pub ends : end ≡ end_at b entry
