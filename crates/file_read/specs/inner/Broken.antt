-- Where a fault of a group stands, whatever stands before it.
use Rattle.std.specs.Prelude.{ℕ, ◌<◌, List}
use Rattle.dex_base.specs.declared.fault.Fault.{Fault}
use Rattle.dex_container.specs.Layout.{size_of}
use Rattle.dex_container.specs.Faults.{FrameBreaks}
use Rattle.dex_container.specs.Section as section
use Rattle.tables_rows.specs.TableFaults.{StringBreaks, TypeBreaks, ProtoBreaks, FieldBreaks, MethodBreaks, BreaksAt}
use Rattle.file_classes.specs.ClassFaults.{ClassRowBreaks, ValuesBreak, BodiesBreak, RowRegistersBreak}
use Rattle.file_read.specs.inner.Groups.{Group, Frame, Strings, Types, Protos, Fields, Methods, Classes, Values, Codes, Registers}

-- in some row of a table
abbrev pub RowBroken : (List ℕ → ℕ → ℕ → Type 0) → List ℕ → ℕ → Fault → Type 0
RowBroken Breaks b k fault = (i : ℕ) × (i < size_of b k) × BreaksAt Breaks b k i fault

-- in what some class row refers to
abbrev pub ClassBroken : (List ℕ → ℕ → Fault → Type 0) → List ℕ → Fault → Type 0
ClassBroken Breaks b fault = (i : ℕ) × (i < size_of b section.class_defs) × Breaks b i fault

-- A fault of the group stands.
abbrev pub GroupBreaks : Group → List ℕ → Fault → Type 0
GroupBreaks Frame b fault = FrameBreaks b fault.code fault.place
GroupBreaks Strings b fault = RowBroken StringBreaks b section.string_ids fault
GroupBreaks Types b fault = RowBroken TypeBreaks b section.type_ids fault
GroupBreaks Protos b fault = RowBroken ProtoBreaks b section.proto_ids fault
GroupBreaks Fields b fault = RowBroken FieldBreaks b section.field_ids fault
GroupBreaks Methods b fault = RowBroken MethodBreaks b section.method_ids fault
GroupBreaks Classes b fault = RowBroken ClassRowBreaks b section.class_defs fault
GroupBreaks Values b fault = ClassBroken ValuesBreak b fault
GroupBreaks Codes b fault = ClassBroken BodiesBreak b fault
GroupBreaks Registers b fault = ClassBroken RowRegistersBreak b fault

-- A fault of reading stands, of whichever group.
abbrev pub Broken : List ℕ → Fault → Type 0
Broken b fault = (g : Group) × GroupBreaks g b fault
