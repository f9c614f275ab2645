-- The fields of the header of a written file, by the page's names.
-- Page: "Dalvik Executable format", "header_item".
use Rattle.std.specs.Prelude.{◌≡◌, ℕ, ◌-◌, List, length}
use Rattle.dex_base.specs.Fields.{u32_at}
use Rattle.dex_container.specs.Layout.{size_of, offset_of, map_place}
use Rattle.dex_container.specs.Section as section
use Rattle.dex_container.specs.inner.Section as inner_section
use Rattle.file_layout.specs.declared.plan.Rows.{Rows}
use Rattle.file_layout.specs.inner.Plan.{type_ids_begin, proto_ids_begin, field_ids_begin, method_ids_begin, class_defs_begin, tables_end, table_offset}

-- The header of a file with so many rows and the map at this place. A table without rows has the offset 0.
pub record HasHeader (b : List ℕ) (r : Rows) (map : ℕ) : Type 0 where
  pub file_size : u32_at b 32 ≡ length b
  pub header_size : u32_at b 36 ≡ 112
  pub endian_tag : u32_at b 40 ≡ 0x12345678
  pub link_size : u32_at b 44 ≡ 0
  pub link_off : u32_at b 48 ≡ 0
  pub map_off : map_place b ≡ map
  pub string_ids_size : size_of b section.string_ids ≡ r.strings
  pub string_ids_off : offset_of b section.string_ids ≡ table_offset r.strings 112
  pub type_ids_size : size_of b section.type_ids ≡ r.types
  pub type_ids_off : offset_of b section.type_ids ≡ table_offset r.types (type_ids_begin r)
  pub proto_ids_size : size_of b section.proto_ids ≡ r.protos
  pub proto_ids_off : offset_of b section.proto_ids ≡ table_offset r.protos (proto_ids_begin r)
  pub field_ids_size : size_of b section.field_ids ≡ r.fields
  pub field_ids_off : offset_of b section.field_ids ≡ table_offset r.fields (field_ids_begin r)
  pub method_ids_size : size_of b section.method_ids ≡ r.methods
  pub method_ids_off : offset_of b section.method_ids ≡ table_offset r.methods (method_ids_begin r)
  pub class_defs_size : size_of b section.class_defs ≡ r.classes
  pub class_defs_off : offset_of b section.class_defs ≡ table_offset r.classes (class_defs_begin r)
  pub data_size : size_of b inner_section.data_section ≡ length b - tables_end r
  pub data_off : offset_of b inner_section.data_section ≡ tables_end r
