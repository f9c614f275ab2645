-- The rows of a file's tables by index, and the names that they denote: tables that are sorted by indices are sorted by
-- names.
-- Page: "Dalvik Executable format", "File layout": type_ids are sorted by string index; proto_ids by return type, then by
-- parameters, by type index; field_ids by class, name and type; method_ids by class, name and proto.
use Rattle.std.specs.Prelude.{ℕ, List, [], ◌∷◌}
use Rattle.program_types.specs.Key.{Key}

-- the first text of a key, which is all of a string or a type
abbrev pub first_of : Key → List ℕ
first_of [] = []
first_of (text ∷ more) = text
