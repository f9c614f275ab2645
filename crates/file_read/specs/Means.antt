-- Which program a file means (Dalvik Executable format).
use Rattle.std.specs.Prelude.{ℕ, ◌<◌, List}
use Rattle.dex_container.specs.Layout.{size_of}
use Rattle.dex_container.specs.Frame.{IsFramed}
use Rattle.dex_container.specs.Section as section
use Rattle.program_types.specs.Content.{Program}
use Rattle.tables_rows.specs.Names.{AreRows}
use Rattle.tables_rows.specs.Sorted.{TablesHold}
use Rattle.file_classes.specs.ClassRows.{InOrder}
use Rattle.file_classes.specs.Classes.{SpellsClass}

-- The file has header, map and checksums as the format requires, every row of its tables denotes a name and the rows rise, and its
-- class rows encode the classes of the program, each after its superclass and its interfaces.
pub record Means (b : List ℕ) (p : Program) : Type 0 where
  pub framed : IsFramed b
  pub tables : TablesHold b
  pub classes : AreRows SpellsClass b section.class_defs p
  pub order : (i : ℕ) → i < size_of b section.class_defs → InOrder b i
