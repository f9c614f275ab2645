-- A word of each row of class_defs.
-- Page: "Dalvik Executable format", "class_def_item".
use Rattle.std.specs.Prelude.{◌≡◌, ℕ, ◌<◌, List, length, slice_index}
use Rattle.dex_container.specs.Layout.{size_of}
use Rattle.dex_container.specs.Section as section
use Rattle.file_classes.specs.ClassRows.{class_word}

-- These are the words j of the rows, row by row.
pub record AreClassWords (b : List ℕ) (j : ℕ) (words : List ℕ) : Type 0 where
  pub count : length words ≡ size_of b section.class_defs
  pub each : (i : ℕ) → i < size_of b section.class_defs → slice_index words i ≡ class_word b i j
