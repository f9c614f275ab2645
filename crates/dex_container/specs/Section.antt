-- The sections that the header names, by their numbers in its order (Dalvik Executable format, "header_item").
use Rattle.std.specs.Prelude.{ℕ}

-- the strings
abbrev pub string_ids : ℕ
string_ids = 0

-- the types
abbrev pub type_ids : ℕ
type_ids = 1

-- the prototypes
abbrev pub proto_ids : ℕ
proto_ids = 2

-- the fields
abbrev pub field_ids : ℕ
field_ids = 3

-- the methods
abbrev pub method_ids : ℕ
method_ids = 4

-- the classes
abbrev pub class_defs : ℕ
class_defs = 5
