-- The names that a program needs: those that it mentions, with the parts of each.
-- Page: "Dalvik Executable format": class_def_item, class_data_item, code_item and encoded_value name strings, types, fields
-- and methods by their indices, so these have to be in the tables.
use Rattle.program_types.specs.Content.{Program}
use Rattle.program_types.specs.Mentions.{mentions}
use Rattle.tables_names.specs.Closure.{Five, nothing, with_names}

-- the names that it needs
unfoldable pub needed : Program → Five
needed p = with_names nothing (mentions p)
