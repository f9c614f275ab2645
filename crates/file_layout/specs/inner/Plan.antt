-- The plan of a written file: how many rows each table has, and where the parts of the data section stand.
-- Page: "Dalvik Executable format", "File layout", "header_item" and "map_list".
use Rattle.std.specs.Prelude.{◌≡◌, ℕ, ◌+◌, ◌-◌, ◌*◌, ◌%◌, ◌<◌, ◌≤◌, ◌==◌, if◌then◌else◌, List, [], ◌∷◌, length, slice_index}
use Rattle.std.specs.List.{filter}
use Rattle.dex_base.specs.Fields.{u32_at}
use Rattle.dex_container.specs.Frame.{HasMagic, HasVersion, SumsHold}
use Rattle.file_layout.specs.declared.plan.Rows.{Rows}
use Rattle.file_layout.specs.declared.plan.Part.{Part}
use Rattle.file_layout.specs.declared.plan.Plan.{Plan}
use Rattle.file_layout.specs.inner.Spans.{Span, has_items, MapNames}

-- where type_ids begins: after the header's 112 bytes and string_ids, of 4 bytes a row
abbrev pub type_ids_begin : Rows → ℕ
type_ids_begin r = 112 + 4 * r.strings

-- where proto_ids begins: after type_ids, of 4 bytes a row
abbrev pub proto_ids_begin : Rows → ℕ
proto_ids_begin r = type_ids_begin r + 4 * r.types

-- where field_ids begins: after proto_ids, of 12 bytes a row
abbrev pub field_ids_begin : Rows → ℕ
field_ids_begin r = proto_ids_begin r + 12 * r.protos

-- where method_ids begins: after field_ids, of 8 bytes a row
abbrev pub method_ids_begin : Rows → ℕ
method_ids_begin r = field_ids_begin r + 8 * r.fields

-- where class_defs begins: after method_ids, of 8 bytes a row
abbrev pub class_defs_begin : Rows → ℕ
class_defs_begin r = method_ids_begin r + 8 * r.methods

-- where class_defs ends, of 32 bytes a row, and the data section begins
abbrev pub tables_end : Rows → ℕ
tables_end r = class_defs_begin r + 32 * r.classes

-- the offset that the header has of a table: 0 where it has no row
abbrev pub table_offset : ℕ → ℕ → ℕ
table_offset rows begin = if rows == 0 then 0 else begin

-- header_item in numbers of four bytes: magic (two), checksum, signature (five), file_size, header_size, endian_tag,
-- link_size and link_off, map_off, then size and offset of each table and of the data section. Checksum and signature
-- are left 0
abbrev pub header_words : Rows → ℕ → ℕ → List ℕ
header_words r map total =
    0x0a786564 ∷ 0x00353330 ∷ 0 ∷ 0 ∷ 0 ∷ 0 ∷ 0 ∷ 0 ∷ total ∷ 112 ∷ 0x12345678 ∷ 0 ∷ 0 ∷ map
    ∷ r.strings ∷ table_offset r.strings 112
    ∷ r.types ∷ table_offset r.types (type_ids_begin r)
    ∷ r.protos ∷ table_offset r.protos (proto_ids_begin r)
    ∷ r.fields ∷ table_offset r.fields (field_ids_begin r)
    ∷ r.methods ∷ table_offset r.methods (method_ids_begin r)
    ∷ r.classes ∷ table_offset r.classes (class_defs_begin r)
    ∷ (total - tables_end r) ∷ tables_end r ∷ []

-- a part of the data section as a span of this kind
abbrev pub part_span : ℕ → Part → Span
part_span kind p = record { kind = kind; items = p.items; begin = p.begin; end = p.end }

-- what the file has, in the order in which it stands: the header, the six tables, type_list, code_item,
-- string_data_item, encoded_array_item, class_data_item, and the map at this place up to the file's end
abbrev pub spans_of : Plan → ℕ → ℕ → List Span
spans_of p map total =
    record { kind = 0; items = 1; begin = 0; end = 112 }
    ∷ record { kind = 1; items = p.rows.strings; begin = 112; end = type_ids_begin p.rows }
    ∷ record { kind = 2; items = p.rows.types; begin = type_ids_begin p.rows; end = proto_ids_begin p.rows }
    ∷ record { kind = 3; items = p.rows.protos; begin = proto_ids_begin p.rows; end = field_ids_begin p.rows }
    ∷ record { kind = 4; items = p.rows.fields; begin = field_ids_begin p.rows; end = method_ids_begin p.rows }
    ∷ record { kind = 5; items = p.rows.methods; begin = method_ids_begin p.rows; end = class_defs_begin p.rows }
    ∷ record { kind = 6; items = p.rows.classes; begin = class_defs_begin p.rows; end = tables_end p.rows }
    ∷ part_span 0x1001 p.lists
    ∷ part_span 0x2001 p.codes
    ∷ part_span 0x2002 p.strings
    ∷ part_span 0x2005 p.arrays
    ∷ part_span 0x2000 p.datas
    ∷ record { kind = 0x1000; items = 1; begin = map; end = total }
    ∷ []

-- A part of the data section ends at or after `at`; with items it also begins there, and takes bytes.
pub record Follows (at : ℕ) (p : Part) : Type 0 where
  pub after : at ≤ p.end
  pub begins : 0 < p.items → at ≤ p.begin
  pub takes : 0 < p.items → p.begin < p.end

-- The parts stand one after the other after the tables, and there are at most 65535 types and protos.
pub record IsPlanned (p : Plan) : Type 0 where
  pub lists : Follows (tables_end p.rows) p.lists
  pub codes : Follows p.lists.end p.codes
  pub strings : Follows p.codes.end p.strings
  pub arrays : Follows p.strings.end p.arrays
  pub datas : Follows p.arrays.end p.datas
  pub few_types : p.rows.types ≤ 65535
  pub few_protos : p.rows.protos ≤ 65535

-- These bytes have header and map by the plan: the map stands 4-aligned at this place, after the data, names exactly
-- what has items, and is the file's end.
pub record IsWritten (b : List ℕ) (p : Plan) (map : ℕ) : Type 0 where
  pub planned : IsPlanned p
  pub after : p.datas.end ≤ map
  pub aligned : map % 4 ≡ 0
  pub named : MapNames b (filter has_items (spans_of p map (length b)))
  pub ends : map + 4 + 12 * length (filter has_items (spans_of p map (length b))) ≡ length b
  pub fields : (j : ℕ) → 8 ≤ j → j < 28 → u32_at b (4 * j) ≡ slice_index (header_words p.rows map (length b)) j
  pub magic : HasMagic b
  pub version : HasVersion b
  pub sums : SumsHold b
