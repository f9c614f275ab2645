-- The order of names. A name's key is the list of its texts in the order of its table row's fields; names of one kind compare
-- as their keys do, text by text, and texts unit by unit.
-- Page: "Dalvik Executable format", "File layout": the orders of string_ids, type_ids, proto_ids, field_ids and method_ids. Where
-- the indices of texts rise with the texts, the order by indices that it states is this one.
use Rattle.std.specs.Prelude.{List, [], ◌∷◌}
use Rattle.std.specs.Ordering.{nat_cmp}
use Rattle.std.specs.Cmp.Lexicographic.{slice_cmp}
use Rattle.std.specs.declared.cmp.Ordering.{Ordering}
use Rattle.program_types.specs.Content.{Units, Proto, FieldRef, MethodRef}

-- The texts of a name.
abbrev pub Key : Type 0
Key = List Units

-- The order of texts, by their UTF-16 units.
abbrev pub units_cmp : Units → Units → Ordering
units_cmp = slice_cmp nat_cmp

-- The order of keys: the first text that differs decides, and a key comes before those that go on from it.
abbrev pub key_cmp : Key → Key → Ordering
key_cmp = slice_cmp units_cmp

-- A string's key is its text, and a type's its descriptor.
abbrev pub text_key : Units → Key
text_key units = units ∷ []

-- Return type, then parameters.
abbrev pub proto_key : Proto → Key
proto_key p = p.ret ∷ p.params

-- Class, name, type.
abbrev pub field_ref_key : FieldRef → Key
field_ref_key f = f.class ∷ f.name ∷ f.ty ∷ []

-- Class, name, prototype.
abbrev pub method_ref_key : MethodRef → Key
method_ref_key m = m.class ∷ m.name ∷ proto_key m.proto
