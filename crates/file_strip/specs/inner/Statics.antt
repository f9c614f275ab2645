-- Static values that stand in a file and are written by the numbers of its kept rows.
-- Page: "Dalvik Executable format", "class_def_item": static_values_off; "encoded_array_item".
use Rattle.std.specs.Prelude.{ℕ, List}
use Rattle.std.specs.List.{AllZip}
use Rattle.file_classes.specs.Classes.{StaticsAt}
use Rattle.file_layout.specs.inner.Sections.{is_empty_list}
use Rattle.file_put.specs.inner.Arrays.{WritesArray}
use Rattle.program_types.specs.Content.{Value, values}
use Rattle.program_types.specs.Mentions.{AllNamesHold}
use Rattle.tables_names.specs.Closure.{Five, AreRising, NameRanks}
use Rattle.file_renumber.specs.inner.Marked.{Columns}
use Rattle.file_renumber.specs.inner.Numbers.{Carries}
use Rattle.tables_rows.specs.Stands.{NameStands}
use Rattle.file_renumber.specs.inner.CarriedArrays.{IsCarriedArray}
use Rattle.file_strip.specs.inner.Moved.{IsItem}

-- These values stand at this offset, none at 0, and by these numbers each name in them has its rank among names s.
pub record IsCarriedStatics (b : List ℕ) (numbers : Columns) (s : Five) (off : ℕ) (vs : List Value) : Type 0 where
  pub most : ℕ
  pub stands : StaticsAt b off most vs
  pub rise : AreRising s
  pub carried : AllNamesHold (Carries (NameStands b) (NameRanks s) numbers) (values vs)

-- At each of these offsets, none at 0, stand the values of one of these lists, and by these numbers each name in them
-- has its rank among names s.
abbrev pub AreCarriedStatics : List ℕ → Columns → Five → List ℕ → List (List Value) → Type 0
AreCarriedStatics b numbers s offs arrays = AllZip (IsCarriedStatics b numbers s) offs arrays

-- What is written for the array at an offset: its values by rank.
abbrev pub WritesStatics : List ℕ → Columns → ℕ → List ℕ → Type 0
WritesStatics b numbers off bytes = (s : Five) (vs : List Value) → IsCarriedArray b off numbers s vs → IsItem is_empty_list (WritesArray s) bytes vs
