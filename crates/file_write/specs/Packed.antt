-- Files without slack, as they are written.
-- Page: "Dalvik Executable format", "File layout", "header_item", "map_list" and the alignment of each item.
use Rattle.std.specs.Prelude.{◌≡◌, ℕ, zero, suc, ◌+◌, ◌*◌, ◌<◌, ◌==◌, if◌then◌else◌, List, [], ◌∷◌, ◌++◌, length, map, slice_index}
use Rattle.std.specs.List.{flat_map}
use Rattle.dex_base.specs.Mutf8.{PacksText}
use Rattle.dex_base.specs.Fields.{AreBytes, u16_at, u32_at}
use Rattle.dex_base.specs.Leb128.{Spells, Shortest}
use Rattle.file_classes.specs.ClassData.{Entries, EntriesAt, SpellsEntries}
use Rattle.file_classes.specs.ClassRows.{annotations_off, class_data_off, interfaces_off, static_values_off}
use Rattle.code_write.specs.Packs.{PacksCode}
use Rattle.code_read.specs.Code.{SpellsCode}
use Rattle.dex_container.specs.Layout.{size_of, offset_of, row_bytes, map_place, map_end, entry_count, entry_place, kind_at, items_at, place_at, data_begin, data_end}
use Rattle.dex_container.specs.Section as section
use Rattle.file_layout.specs.Parts.{IsWrittenKind}
use Rattle.file_layout.specs.Tiles.{Among, Tiles, IsNext, distinct_places}
use Rattle.program_types.specs.Content.{Code, Value}
use Rattle.file_put.specs.Data.{code_offs}
use Rattle.tables_rows.specs.Names.{AreRows}
use Rattle.tables_rows.specs.RowFields.{string_place, proto_parameters}
use Rattle.tables_rows.specs.Stands.{NameStands, SpellsIndexes}
use Rattle.dex_value.specs.Spelling.{SpellsArray}

-- ---- sections

-- The map has for a kind whose items are at these places their number and, if there are some, as their begin the first
-- ("offset from the start of the file to the items in question").
pub record MapHas (b : List ℕ) (kind : ℕ) (places : List ℕ) : Type 0 where
  pub counted : (i : ℕ) → i < entry_count b → kind_at b i ≡ kind → items_at b i ≡ length places
  pub named : 0 < length places → (i : ℕ) × (i < entry_count b) × (kind_at b i ≡ kind) × (place_at b i ≡ slice_index places 0)

-- From `begin` to `end` are the items of these references, in the order of their first references, with zeros for alignment, and
-- nothing else; no two of them are equal.
pub record IsPackedSection {V : Type 0} (G : List ℕ → V → Type 0) (align : ℕ) (b : List ℕ) (kind begin end : ℕ)
    (references : List ℕ) : Type 0 where
  pub items : List (ℕ × V)
  pub tiled : Tiles G align b begin end items
  pub order : map (λ (x : ℕ × V). x.0) items ≡ distinct_places references
  pub apart : (place other : ℕ) (v : V) → Among items place v → Among items other v → place ≡ other
  pub in_map : MapHas b kind (map (λ (x : ℕ × V). x.0) items)

-- ---- items, of which none is empty

-- a type_list, by its indices
abbrev pub SomeTypes : List ℕ → List ℕ → Type 0
SomeTypes bytes indexes = SpellsIndexes bytes indexes × (0 < length indexes)

-- a code_item, which encodes the code, in the bytes that are written for it
pub record SomeCode (b bytes : List ℕ) (c : Code) : Type 0 where
  pub spelled : SpellsCode (NameStands b) bytes c
  pub packed : PacksCode (NameStands b) bytes c

-- an encoded_array, in the fewest bytes
abbrev pub SomeValues : List ℕ → List ℕ → List Value → Type 0
SomeValues b bytes vs = Shortest (SpellsArray (NameStands b)) bytes vs × (0 < length vs)

-- a class_data_item, its numbers in the fewest bytes
abbrev pub SomeMembers : List ℕ → Entries → Type 0
SomeMembers bytes e =
    SpellsEntries (Shortest Spells) bytes e
    × (0 < length e.statics + length e.instances + length e.directs + length e.virtuals)

-- ---- the references to them, in the order of the file

-- one field of each row
abbrev pub words_of_rows : (ℕ → ℕ) → ℕ → List ℕ
words_of_rows word zero = []
words_of_rows word (suc n) = words_of_rows word n ++ word n ∷ []

-- parameters_off of each prototype, then interfaces_off of each class
abbrev pub list_places : List ℕ → List ℕ
list_places b = words_of_rows (proto_parameters b) (size_of b section.proto_ids) ++ words_of_rows (λ i. interfaces_off b i) (size_of b section.class_defs)

-- string_data_off of each string
abbrev pub text_places : List ℕ → List ℕ
text_places b = words_of_rows (string_place b) (size_of b section.string_ids)

-- static_values_off of each class
abbrev pub array_places : List ℕ → List ℕ
array_places b = words_of_rows (λ i. static_values_off b i) (size_of b section.class_defs)

-- class_data_off of each class
abbrev pub data_places : List ℕ → List ℕ
data_places b = words_of_rows (λ i. class_data_off b i) (size_of b section.class_defs)

-- the class data of row i, no entries where it has none
abbrev pub ClassDataIs : List ℕ → ℕ → Entries → Type 0
ClassDataIs b i e = EntriesAt b (class_data_off b i) e

-- code_off of each method of a class, the direct ones first
abbrev pub code_places : Entries → List ℕ
code_places e = code_offs e.directs ++ code_offs e.virtuals

-- ---- the file

-- where the first k tables end, if they are end to end after the header
abbrev pub table_end : List ℕ → ℕ → ℕ
table_end b zero = 112
table_end b (suc k) = table_end b k + row_bytes k * size_of b k

-- Tables are end to end after the header, and one without rows has the offset 0; the data section goes from where
-- they end to the file's end.
pub record TablesArePacked (b : List ℕ) : Type 0 where
  pub offsets : (k : ℕ) → k < 6 → offset_of b k ≡ (if size_of b k == 0 then 0 else table_end b k)
  pub data_first : data_begin b ≡ table_end b 6
  pub data_last : data_end b ≡ length b

-- where the sections of the data end
pub record DataEnds : Type 0 where
  pub lists : ℕ
  pub codes : ℕ
  pub texts : ℕ
  pub arrays : ℕ
  pub datas : ℕ

-- Type lists, code, texts, static values, class data and the map follow one another.
pub record DataIsPacked (b : List ℕ) (ends : DataEnds) (entries : List Entries) : Type 0 where
  pub lists : IsPackedSection SomeTypes 4 b 0x1001 (data_begin b) ends.lists (list_places b)
  pub codes : IsPackedSection (SomeCode b) 4 b 0x2001 ends.lists ends.codes (flat_map code_places entries)
  pub texts : IsPackedSection PacksText 1 b 0x2002 ends.codes ends.texts (text_places b)
  pub arrays : IsPackedSection (SomeValues b) 1 b 0x2005 ends.texts ends.arrays (array_places b)
  pub datas : IsPackedSection SomeMembers 1 b 0x2000 ends.arrays ends.datas (data_places b)
  pub map : IsNext 4 b ends.datas (map_place b)
  pub map_last : map_end b ≡ length b

-- Fields that no reader uses are 0: link_off, annotations_off, the half word after the kind of a map entry.
pub record UnusedIsZero (b : List ℕ) : Type 0 where
  pub link : u32_at b 48 ≡ 0
  pub annotations : (i : ℕ) → i < size_of b section.class_defs → annotations_off b i ≡ 0
  pub map : (i : ℕ) → i < entry_count b → u16_at b (entry_place b i + 2) ≡ 0

-- The map lists the kinds that a written file has and no others, and each only if it has items.
pub record MapIsPacked (b : List ℕ) : Type 0 where
  pub kinds : (i : ℕ) → i < entry_count b → IsWrittenKind (kind_at b i)
  pub some : (i : ℕ) → i < entry_count b → 0 < items_at b i

-- A file without slack: tables and sections are end to end, each item is referenced and in its place, equal ones are one, numbers are in
-- the fewest bytes, the map lists what there is, and fields that no reader uses are 0.
pub record Packed (b : List ℕ) : Type 0 where
  pub bytes : AreBytes b
  pub tables : TablesArePacked b
  pub entries : List Entries
  pub entries_are : AreRows ClassDataIs b section.class_defs entries
  pub ends : DataEnds
  pub data_section : DataIsPacked b ends entries
  pub map : MapIsPacked b
  pub unused : UnusedIsZero b
