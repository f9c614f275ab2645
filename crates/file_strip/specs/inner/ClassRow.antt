-- The row of one class.
-- Page: "Dalvik Executable format", "class_def_item".
use Rattle.std.specs.Prelude.{◌≡◌, ℕ, List, Some, slice_get}
use Rattle.dex_base.specs.Grammar.{Appends}
use Rattle.file_put.specs.inner.ClassDefs.{SpellsClassRow}
use Rattle.program_types.specs.Content.{Class, Program}
use Rattle.tables_names.specs.Needed.{needed}

-- `new` is `old` and after it the row of class i of the program, whose items stand at these places.
abbrev pub IsRowWithPlaces : Program → ℕ → ℕ → ℕ → ℕ → List ℕ → List ℕ → Type 0
IsRowWithPlaces p i list class_data array old new =
    (c : Class) → slice_get p i ≡ Some c → Appends (SpellsClassRow (needed p)) old new (record { class = c; list = list; class_data = class_data; array = array })
