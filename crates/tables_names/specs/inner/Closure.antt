-- Beside Closure.antt: what no promise reaches.
use Rattle.std.specs.Prelude.{◌≡◌, true}
use Rattle.program_types.specs.Content.{Name, OfText, OfDesc, OfField, OfMethod}
use Rattle.program_types.specs.Key.{text_key, field_ref_key, method_ref_key}
use Rattle.tables_names.specs.Rank.{is_member}
use Rattle.tables_names.specs.Closure.{Five}

-- the sets hold a name
abbrev pub Holds : Five → Name → Type 0
Holds s (OfText t) = is_member s.strings (text_key t) ≡ true
Holds s (OfDesc t) = is_member s.types (text_key t) ≡ true
Holds s (OfField f) = is_member s.fields (field_ref_key f) ≡ true
Holds s (OfMethod m) = is_member s.methods (method_ref_key m) ≡ true
