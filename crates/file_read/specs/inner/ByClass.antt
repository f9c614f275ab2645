-- A file that is read class by class: what its reader holds, and which classes it has read.
-- Page: "Dalvik Executable format".
use Rattle.std.specs.Prelude.{ℕ, ◌-◌, ◌≤◌, List, IfSome, IfNone}
use Rattle.dex_container.specs.Frame.{IsFramed}
use Rattle.dex_container.specs.Layout.{size_of}
use Rattle.dex_container.specs.Section as section
use Rattle.program_types.specs.Content.{Class}
use Rattle.tables_rows.specs.Names.{AreNamesOf, AreRows}
use Rattle.tables_rows.specs.Sorted.{RowsHold, TablesHold}
use Rattle.tables_rows.specs.inner.Reading.{AreFirst}
use Rattle.file_classes.specs.ClassFaults.{ValuesHold, BodiesHold, RowRegistersHold, RowRegistersBreak}
use Rattle.file_classes.specs.inner.ClassFaults.{ClassRowsHold, IsFirstClass}
use Rattle.file_classes.specs.inner.Reading.{IsHead, AreStatics, SpellsBodies}
use Rattle.file_read.specs.declared.class_reader.ClassReader.{ClassReader}

-- The reader has the names, heads and static values of a file in which all of these hold. Before its row all codes hold too,
-- their registers aside, of which it has the first fault.
pub record IsReader (r : ClassReader) : Type 0 where
  pub framed : IsFramed r.sections
  pub tables : TablesHold r.sections
  pub names : AreNamesOf r.sections r.tables
  pub classes : ClassRowsHold r.sections
  pub heads : AreRows IsHead r.sections section.class_defs r.heads.now
  pub values : RowsHold ValuesHold r.sections (size_of r.sections section.class_defs)
  pub statics : AreRows AreStatics r.sections section.class_defs r.statics.now
  pub within : r.row ≤ size_of r.sections section.class_defs
  pub bodies : RowsHold BodiesHold r.sections r.row
  pub hold : IfNone r.past (RowsHold RowRegistersHold r.sections r.row)
  pub past : IfSome r.past (IsFirstClass RowRegistersBreak RowRegistersHold r.sections)

-- The rows before the reader's spell these classes, whichever registers their code names.
abbrev pub HasRead : ClassReader → List Class → Type 0
HasRead r classes = AreFirst SpellsBodies BodiesHold r.sections r.row classes

-- how many rows are left
abbrev pub rows_left : ClassReader → ℕ
rows_left r = size_of r.sections section.class_defs - r.row
