-- The parts of a file: names, values and places decide their bytes.
-- Page: "Dalvik Executable format", "string_id_item" to "method_id_item", "class_def_item", "type_list", "class_data_item".
use Rattle.std.specs.Prelude.{◌≡◌, ℕ, List}
use Rattle.dex_base.specs.Fields.{AreBytes}
use Rattle.dex_base.specs.Grammar.{Each}
use Rattle.tables_names.specs.Closure.{Five, AreRising, NameRanks}
use Rattle.program_types.specs.Content.{Descriptor}
use Rattle.file_put.specs.inner.Rows.{SpellsRows}
use Rattle.file_put.specs.inner.ClassDefs.{SpellsClassRow, ClassWithPlaces}
use Rattle.file_put.specs.inner.Lists.{SpellsRanks}
use Rattle.file_put.specs.inner.Data.{PacksData, ClassWithCodes}

-- The rows of the tables of names are spelled in one way.
abbrev pub NameRowsAreOne : Type 0
NameRowsAreOne = (s : Five) → AreRising s → (texts lists a b : List ℕ) → SpellsRows s texts lists a → SpellsRows s texts lists b → a ≡ b

-- The rows of class_defs are spelled in one way.
abbrev pub ClassRowsAreOne : Type 0
ClassRowsAreOne =
    (s : Five) → AreRising s → (a b : List ℕ) (vs : List ClassWithPlaces) → Each (SpellsClassRow s) a vs → Each (SpellsClassRow s) b vs → a ≡ b

-- by ranks types have one list
abbrev pub TypeListIsOne : Type 0
TypeListIsOne = (s : Five) → AreRising s → (a b : List ℕ) (ts : List Descriptor) → SpellsRanks s a ts → SpellsRanks s b ts → a ≡ b

-- and a class whose bodies have places has one class data
abbrev pub ClassDataIsOne : Type 0
ClassDataIsOne =
    (s : Five) → AreRising s → (a b : List ℕ) (v : ClassWithCodes) → AreBytes a → AreBytes b
    → PacksData (NameRanks s) a v → PacksData (NameRanks s) b v → a ≡ b
