-- The names in the row of a class have indices.
-- Page: "Dalvik Executable format", "class_def_item".
use Rattle.std.specs.Option.{ForSome}
use Rattle.tables_names.specs.Closure.{Five}
use Rattle.tables_names.specs.inner.Indices.{HasRank}
use Rattle.program_types.specs.Content.{Class}
use Rattle.program_types.specs.Key.{text_key}

-- Its type, its superclass and its source file have indices.
pub record RowNamesHeld (s : Five) (c : Class) : Type 0 where
  pub ty : HasRank s.types (text_key c.ty)
  pub above : ForSome c.superclass (λ t. HasRank s.types (text_key t))
  pub source : ForSome c.source (λ t. HasRank s.strings (text_key t))
