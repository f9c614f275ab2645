-- How many bytes the file of a program takes at most: nothing shared, five bytes for each LEB128 number, three before each item
-- that is 4-aligned.
-- Page: "Dalvik Executable format", each item's own table; "LEB128".
use Rattle.std.specs.Prelude.{ℕ, ◌+◌, ◌*◌, List, [], ◌∷◌, ◌++◌, length, map, Option, Some, None}
use Rattle.dex_base.specs.Mutf8.{mutf8_length}
use Rattle.code_write.specs.Fits.{wide_code}
use Rattle.file_layout.specs.Sections.{wide_all}
use Rattle.tables_names.specs.Closure.{Five}
use Rattle.tables_names.specs.Needed.{needed}
use Rattle.tables_names.specs.Rows.{first_of}
use Rattle.program_types.specs.Content.{Units, Code, Method, Class, Program}
use Rattle.program_types.specs.Key.{Key}
use Rattle.dex_value.specs.Wide.{wide_array}

-- ---- items

-- a type_list, where there are types
abbrev pub wide_list : List Units → ℕ
wide_list [] = 0
wide_list (t ∷ ts) = 7 + 2 * length (t ∷ ts)

-- a code_item, where there is a body
abbrev pub wide_body : Option Code → ℕ
wide_body None = 0
wide_body (Some c) = wide_code c

-- a class_data_item
abbrev pub wide_data : Class → ℕ
wide_data c = 20 + 10 * (length c.statics + length c.instances) + 15 * (length c.directs + length c.virtuals)

-- ---- names and classes, each with its row and its items

-- a string
abbrev pub wide_string : Key → ℕ
wide_string k = 10 + mutf8_length (first_of k)

-- the parameters of a prototype's key, which is its return type and these
abbrev pub params_of : Key → List Units
params_of [] = []
params_of (ret ∷ params) = params

-- a prototype
abbrev pub wide_proto : Key → ℕ
wide_proto k = 12 + wide_list (params_of k)

-- the bodies of methods, and those of a class: direct methods, then virtual ones
abbrev pub bodies_in : List Method → List (Option Code)
bodies_in ms = map (λ m. m.code) ms

-- The bodies of a class: direct methods, then virtual ones.
abbrev pub bodies_of : Class → List (Option Code)
bodies_of c = bodies_in c.directs ++ bodies_in c.virtuals

-- a class
abbrev pub wide_class : Class → ℕ
wide_class c = 32 + wide_list c.interfaces + wide_data c + wide_array c.values + wide_all wide_body (bodies_of c)

-- ---- a file

-- the header and these names
abbrev pub wide_names : Five → ℕ
wide_names s =
    112 + wide_all wide_string s.strings + 4 * length s.types + wide_all wide_proto s.protos + 8 * length s.fields + 8 * length s.methods

-- these, the classes of the program, and the map
abbrev pub wide_of : Five → Program → ℕ
wide_of s p = wide_names s + wide_all wide_class p + 163

-- the file of a program
abbrev pub wide : Program → ℕ
wide p = wide_of (needed p) p

-- ---- the same, part by part
