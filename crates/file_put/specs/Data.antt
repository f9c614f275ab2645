-- The class data of a class whose bodies have places.
-- Page: "Dalvik Executable format", "class_data_item", "encoded_field", "encoded_method".
use Rattle.std.specs.Prelude.{ℕ, List, map}
use Rattle.file_classes.specs.ClassData.{MethodEntry, code_off}

-- the offsets of the bodies of methods
abbrev pub code_offs : List MethodEntry → List ℕ
code_offs es = map (λ e. code_off e) es
