-- Beside Wide.antt: what no promise reaches.
use Rattle.std.specs.Prelude.{ℕ, ◌+◌, ◌*◌, List, ◌++◌, length, map, Option}
use Rattle.std.specs.List.{flat_map}
use Rattle.dex_base.specs.Mutf8.{mutf8_length}
use Rattle.file_layout.specs.Sections.{wide_all}
use Rattle.tables_names.specs.Closure.{Five}
use Rattle.tables_names.specs.Rows.{first_of}
use Rattle.program_types.specs.Content.{Units, Code, Value, Class, Program}
use Rattle.dex_value.specs.Wide.{wide_array}
use Rattle.file_limits.specs.Wide.{bodies_of, params_of, wide_body, wide_data, wide_list}

-- a string_data_item: its count, the text, a zero
abbrev pub wide_text : Units → ℕ
wide_text units = 6 + mutf8_length units

-- the header and the rows of the six tables
abbrev pub wide_rows : Five → Program → ℕ
wide_rows s p = 112 + 4 * length s.strings + 4 * length s.types + 12 * length s.protos + 8 * length s.fields + 8 * length s.methods + 32 * length p

-- the type lists: parameters, then interfaces
abbrev pub list_values : Five → Program → List (List Units)
list_values s p = map params_of s.protos ++ map (λ (c : Class). c.interfaces) p

-- the bodies of all classes
abbrev pub body_values : Program → List (Option Code)
body_values p = flat_map bodies_of p

-- the texts of the strings
abbrev pub text_values : Five → List Units
text_values s = map first_of s.strings

-- the static values of each class
abbrev pub array_values : Program → List (List Value)
array_values p = map (λ (c : Class). c.values) p

-- rows, type lists, code items, texts, arrays, class data, and the map
abbrev pub wide_parts : Five → Program → ℕ
wide_parts s p =
    wide_rows s p + wide_all wide_list (list_values s p) + wide_all wide_body (body_values p) + wide_all wide_text (text_values s)
    + wide_all wide_array (array_values p) + wide_all wide_data p + 163
