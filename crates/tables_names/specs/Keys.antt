-- The key of each kind of name in memory: its texts, in the order in which they sort the table.
-- Page: "Dalvik Executable format", "File layout": the orders of string_ids to method_ids.
use Rattle.program_types.specs.Key.{Key, text_key, proto_key, field_ref_key, method_ref_key}
use Rattle.program_types.specs.View.{str, desc, proto, field_ref, method_ref}
use Rattle.program_types.specs.declared.names.Str.{Str}
use Rattle.program_types.specs.declared.names.Desc.{Desc}
use Rattle.program_types.specs.declared.names.Proto.{Proto}
use Rattle.program_types.specs.declared.names.FieldRef.{FieldRef}
use Rattle.program_types.specs.declared.names.MethodRef.{MethodRef}

-- a string's text
abbrev pub key_of_str : Str → Key
key_of_str s = text_key (str s)

-- a type's descriptor
abbrev pub key_of_desc : Desc → Key
key_of_desc d = text_key (desc d)

-- return type, then parameters
abbrev pub key_of_proto : Proto → Key
key_of_proto p = proto_key (proto p)

-- class, name, type
abbrev pub key_of_field : FieldRef → Key
key_of_field f = field_ref_key (field_ref f)

-- class, name, prototype
abbrev pub key_of_method : MethodRef → Key
key_of_method m = method_ref_key (method_ref m)
