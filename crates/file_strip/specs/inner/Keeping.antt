-- The rows of a file that are kept for the program that it means.
-- Page: "Dalvik Executable format", "File layout".
use Rattle.std.specs.Prelude.{ℕ, List}
use Rattle.dex_container.specs.Section as section
use Rattle.file_classes.specs.ClassData.{EntriesAt}
use Rattle.file_classes.specs.ClassRows.{class_data_off}
use Rattle.file_classes.specs.Classes.{SpellsClass}
use Rattle.file_classes.specs.declared.class_data.Entries.{Entries}
use Rattle.file_classes.specs.inner.Reading.{entries}
use Rattle.program_types.specs.Content.{Program}
use Rattle.tables_names.specs.Needed.{needed}
use Rattle.file_renumber.specs.inner.Marked.{Columns, Marked, AreMarks}
use Rattle.file_renumber.specs.inner.Numbers.{AreRowNumbers}
use Rattle.tables_rows.specs.Names.{AreRows}
use Rattle.tables_rows.specs.Sorted.{TablesHold}

-- The file's class rows spell the classes of the program, and these are the numbers of the rows of just the names that
-- it needs.
pub record Keeps (b : List ℕ) (numbers : Columns) (p : Program) : Type 0 where
  pub tables : TablesHold b
  pub classes : AreRows SpellsClass b section.class_defs p
  pub marks : Marked
  pub marked : AreMarks b marks (needed p)
  pub numbered : AreRowNumbers marks.columns numbers

-- The class data of row i lists these members.
abbrev pub ListsMembers : List ℕ → ℕ → Entries → Type 0
ListsMembers b i all = EntriesAt b (class_data_off b i) (entries all)
