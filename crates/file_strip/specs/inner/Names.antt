-- Names that a class row may lack, by the numbers of kept rows.
-- Page: "Dalvik Executable format", "class_def_item": superclass_idx, source_file_idx.
use Rattle.std.specs.Prelude.{ℕ, ◌≤◌, List, Option, length}
use Rattle.std.specs.Option.{ForSome}
use Rattle.file_classes.specs.ClassRows.{IndexOrNone, no_index}
use Rattle.program_types.specs.Content.{Units, OfDesc, OfText}
use Rattle.tables_names.specs.Closure.{Five, NameRanks}
use Rattle.file_renumber.specs.inner.Marked.{Columns}
use Rattle.file_renumber.specs.inner.Numbers.{Carries}
use Rattle.tables_rows.specs.Stands.{NameStands, StringStands, TypeStands}

-- The index stands for a type that has its rank among names s, or for none.
pub record TypeOrNone (b : List ℕ) (numbers : Columns) (s : Five) (index : ℕ) (name : Option Units) : Type 0 where
  pub few : length s.types ≤ no_index
  pub stands : IndexOrNone (TypeStands b) index name
  pub carried : ForSome name (λ t. Carries (NameStands b) (NameRanks s) numbers (OfDesc t))

-- The index stands for a string that has its rank among names s, or for none.
pub record StringOrNone (b : List ℕ) (numbers : Columns) (s : Five) (index : ℕ) (name : Option Units) : Type 0 where
  pub few : length s.strings ≤ no_index
  pub stands : IndexOrNone (StringStands b) index name
  pub carried : ForSome name (λ t. Carries (NameStands b) (NameRanks s) numbers (OfText t))
