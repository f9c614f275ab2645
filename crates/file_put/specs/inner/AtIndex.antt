-- The row of a name stands at its index.
-- Page: "Dalvik Executable format", "File layout": a row's index is its place in the table.
use Rattle.std.specs.Prelude.{ℕ, ◌*◌, List, take, drop, slice_index}
use Rattle.tables_names.specs.Closure.{Five}
use Rattle.tables_names.specs.Rank.{IsAt}
use Rattle.program_types.specs.Content.{Descriptor, Proto, FieldRef, MethodRef}
use Rattle.program_types.specs.Key.{text_key, proto_key, field_ref_key, method_ref_key}
use Rattle.file_put.specs.inner.Rows.{SpellsRows, SpellsTypeRow, SpellsProtoRow, SpellsFieldRow, SpellsMethodRow}

-- row i of a table whose rows have so many bytes
abbrev pub row_at : List ℕ → ℕ → ℕ → List ℕ
row_at bytes size i = take size (drop (size * i) bytes)

-- The row of a type, of four bytes, is that of its descriptor.
abbrev pub TypeRowsStand : Type 0
TypeRowsStand =
    (s : Five) (texts lists bytes : List ℕ) (rows : SpellsRows s texts lists bytes) (i : ℕ) (t : Descriptor)
    → IsAt s.types i (text_key t) → SpellsTypeRow s (row_at rows.types 4 i) t

-- The row of a proto, of twelve bytes, is that of its shorty, its return type and the place of its parameters.
abbrev pub ProtoRowsStand : Type 0
ProtoRowsStand =
    (s : Five) (texts lists bytes : List ℕ) (rows : SpellsRows s texts lists bytes) (i : ℕ) (p : Proto)
    → IsAt s.protos i (proto_key p) → SpellsProtoRow s (row_at rows.protos 12 i) (slice_index lists i, p)

-- The row of a field, of eight bytes, is that of its class, its type and its name.
abbrev pub FieldRowsStand : Type 0
FieldRowsStand =
    (s : Five) (texts lists bytes : List ℕ) (rows : SpellsRows s texts lists bytes) (i : ℕ) (f : FieldRef)
    → IsAt s.fields i (field_ref_key f) → SpellsFieldRow s (row_at rows.fields 8 i) f

-- The row of a method, of eight bytes, is that of its class, its proto and its name.
abbrev pub MethodRowsStand : Type 0
MethodRowsStand =
    (s : Five) (texts lists bytes : List ℕ) (rows : SpellsRows s texts lists bytes) (i : ℕ) (m : MethodRef)
    → IsAt s.methods i (method_ref_key m) → SpellsMethodRow s (row_at rows.methods 8 i) m
