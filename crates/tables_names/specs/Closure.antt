-- The names of the five tables as sets, and what a name needs beside itself.
-- Page: "Dalvik Executable format": the fields of string_id_item, type_id_item, proto_id_item, field_id_item and
-- method_id_item that are indices of other names.
use Rattle.std.specs.Prelude.{◌≡◌, ℕ, List, [], ◌∷◌, map, fold, true, ⊤, All}
use Rattle.program_types.specs.Content.{Descriptor, Method, Proto, Name, OfText, OfDesc, OfField, OfMethod}
use Rattle.program_types.specs.Key.{Key, text_key, proto_key, field_ref_key, method_ref_key}
use Rattle.dex_base.specs.Descriptor.{IsDescriptor}
use Rattle.program_types.specs.Shorty.{letter_of}
use Rattle.tables_names.specs.Rank.{Rising, add_all, is_member, IsSubset, IsAt}

-- the keys of string_ids, type_ids, proto_ids, field_ids and method_ids
pub record Five : Type 0 where
  pub strings : List Key
  pub types : List Key
  pub protos : List Key
  pub fields : List Key
  pub methods : List Key

-- no name of any kind
abbrev pub nothing : Five
nothing = record { strings = []; types = []; protos = []; fields = []; methods = [] }

-- the shorty of a return type and parameters, a letter for each
abbrev pub shorty_of_texts : Key → List ℕ
shorty_of_texts texts = map letter_of texts

-- a string, by its key
abbrev pub string_closure : Key → Five
string_closure k = record nothing { strings = k ∷ [] }

-- a type, and its descriptor as a string (type_id_item: descriptor_idx)
abbrev pub type_closure : Key → Five
type_closure k = record nothing { strings = k ∷ []; types = k ∷ [] }

-- a shorty, and types with their descriptors
abbrev pub proto_parts : List ℕ → Key → Five
proto_parts shorty texts =
    record { strings = text_key shorty ∷ map text_key texts; types = map text_key texts; protos = []; fields = []; methods = [] }

-- a proto, its shorty, its return type and its parameters (proto_id_item: shorty_idx, return_type_idx, parameters_off)
abbrev pub proto_closure : Key → Five
proto_closure k = record (proto_parts (shorty_of_texts k) k) { protos = k ∷ [] }

-- a field, its class, its name and its type (field_id_item: class_idx, name_idx, type_idx)
abbrev pub field_closure : Key → Five
field_closure (class ∷ name ∷ ty ∷ []) =
    record { strings = text_key class ∷ text_key name ∷ text_key ty ∷ []; types = text_key class ∷ text_key ty ∷ []; protos = []; fields = (class ∷ name ∷ ty ∷ []) ∷ []; methods = [] }
field_closure _ = nothing

-- a method, its class, its name and its proto (method_id_item: class_idx, name_idx, proto_idx)
abbrev pub method_closure : Key → Five
method_closure (class ∷ name ∷ proto) =
    record { strings = text_key class ∷ text_key name ∷ (proto_closure proto).strings; types = text_key class ∷ (proto_closure proto).types; protos = proto ∷ []; fields = []; methods = (class ∷ name ∷ proto) ∷ [] }
method_closure _ = nothing

-- a name of any kind, with its parts
abbrev pub closure_of : Name → Five
closure_of (OfText s) = string_closure (text_key s)
closure_of (OfDesc t) = type_closure (text_key t)
closure_of (OfField f) = field_closure (field_ref_key f)
closure_of (OfMethod m) = method_closure (method_ref_key m)

-- the union
abbrev pub join : Five → Five → Five
join s t =
    record { strings = add_all s.strings t.strings; types = add_all s.types t.types; protos = add_all s.protos t.protos; fields = add_all s.fields t.fields; methods = add_all s.methods t.methods }

-- each of the five is a part
pub record IsPart (s t : Five) : Type 0 where
  pub strings : IsSubset s.strings t.strings
  pub types : IsSubset s.types t.types
  pub protos : IsSubset s.protos t.protos
  pub fields : IsSubset s.fields t.fields
  pub methods : IsSubset s.methods t.methods

-- the sets, and a name with its parts
unfoldable pub with_name : Five → Name → Five
with_name s name = join s (closure_of name)

-- the sets, and a proto with its parts
unfoldable pub with_proto : Five → Proto → Five
with_proto s p = join s (proto_closure (proto_key p))

-- the parts of a name of any kind, without the name
abbrev pub parts_of : Name → Five
parts_of (OfText s) = nothing
parts_of (OfDesc t) = record (type_closure (text_key t)) { types = [] }
parts_of (OfField f) = record (field_closure (field_ref_key f)) { fields = [] }
parts_of (OfMethod m) = record (method_closure (method_ref_key m)) { methods = [] }

-- the sets, and the parts of a name
unfoldable pub with_parts : Five → Name → Five
with_parts s name = join s (parts_of name)

-- the sets, and the parts of a proto
unfoldable pub with_proto_parts : Five → Proto → Five
with_proto_parts s p = join s (proto_parts (shorty_of_texts (proto_key p)) (proto_key p))

-- the sets, and these names with their parts
abbrev pub with_names : Five → List Name → Five
with_names s names = fold with_name s names

-- with each name its parts are there
pub record IsClosed (s : Five) : Type 0 where
  pub of_types : (k : Key) → is_member s.types k ≡ true → IsPart (type_closure k) s
  pub of_protos : (k : Key) → is_member s.protos k ≡ true → IsPart (proto_closure k) s
  pub of_fields : (k : Key) → is_member s.fields k ≡ true → IsPart (field_closure k) s
  pub of_methods : (k : Key) → is_member s.methods k ≡ true → IsPart (method_closure k) s

-- nothing goes, and beyond what was there only parts of all come
pub record AddsPart (old new all : Five) : Type 0 where
  pub keeps : IsPart old new
  pub adds : IsPart new all

-- each of the five strictly rises
pub record AreRising (s : Five) : Type 0 where
  pub strings : Rising s.strings
  pub types : Rising s.types
  pub protos : Rising s.protos
  pub fields : Rising s.fields
  pub methods : Rising s.methods

-- the types that have a letter in the name's shorty are descriptors
abbrev pub HasShorty : Name → Type 0
HasShorty (OfMethod m) = IsDescriptor m.proto.ret × All IsDescriptor m.proto.params
HasShorty _ = ⊤

-- a method that a class of this type defines
abbrev pub method_of_class : Descriptor → Method → Name
method_of_class class m = OfMethod (record { class = class; name = m.name; proto = m.proto })

-- i is the index of the name, in the set of its kind
abbrev pub NameRanks : Five → ℕ → Name → Type 0
NameRanks s i (OfText t) = IsAt s.strings i (text_key t)
NameRanks s i (OfDesc t) = IsAt s.types i (text_key t)
NameRanks s i (OfField f) = IsAt s.fields i (field_ref_key f)
NameRanks s i (OfMethod m) = IsAt s.methods i (method_ref_key m)
