-- Names in the order of first need, where each has a number, its place, and beside each the places of its parts: the row of
-- a table, but by places in these lists. In sorted lists the places are ranks, and these are the rows of the tables.
-- Page: "Dalvik Executable format": type_id_item, proto_id_item, field_id_item and method_id_item name their parts by index.
use Rattle.std.specs.Prelude.{◌≡◌, ℕ, ◌<◌, List, [], ◌∷◌, ◌++◌, if◌then◌else◌, length, slice_index}
use Rattle.std.specs.List.{AllZip}
use Rattle.program_types.specs.Key.{Key, text_key}
use Rattle.tables_names.specs.Rank.{is_member, add_all, IsAt}
use Rattle.tables_names.specs.Closure.{Five, IsClosed}
use Rattle.tables_names.specs.declared.parts.TypeParts.{TypeParts}
use Rattle.tables_names.specs.declared.parts.ProtoParts.{ProtoParts}
use Rattle.tables_names.specs.declared.parts.FieldParts.{FieldParts}
use Rattle.tables_names.specs.declared.parts.MethodParts.{MethodParts}

-- ---- the parts of one name

-- the place of a type's descriptor among strings
abbrev pub TypeAt : List Key → Key → TypeParts → Type 0
TypeAt strings (text ∷ []) p = IsAt strings p.text (text_key text)
TypeAt strings _ p = ⊥

-- the place of a prototype's return type among types
abbrev pub ProtoAt : List Key → Key → ProtoParts → Type 0
ProtoAt types [] p = ⊥
ProtoAt types (ret ∷ params) p = IsAt types p.ret (text_key ret)

-- the places of a field's class, name and type
abbrev pub FieldAt : List Key → List Key → Key → FieldParts → Type 0
FieldAt types strings (class ∷ name ∷ ty ∷ []) p =
    IsAt types p.class (text_key class) × IsAt strings p.name (text_key name) × IsAt types p.ty (text_key ty)
FieldAt types strings _ p = ⊥

-- the places of a method's class, name and prototype
abbrev pub MethodAt : List Key → List Key → List Key → Key → MethodParts → Type 0
MethodAt types strings protos (class ∷ name ∷ ret ∷ params) p =
    IsAt types p.class (text_key class) × IsAt strings p.name (text_key name) × IsAt protos p.proto (ret ∷ params)
MethodAt types strings protos _ p = ⊥

-- ---- of all names

-- five lists of names, and beside each name the places of its parts
pub record Order : Type 0 where
  pub names : Five
  pub types : List TypeParts
  pub protos : List ProtoParts
  pub fields : List FieldParts
  pub methods : List MethodParts

-- beside each name are the places of its parts
pub record HaveParts (o : Order) : Type 0 where
  pub types : AllZip (TypeAt o.names.strings) o.names.types o.types
  pub protos : AllZip (ProtoAt o.names.types) o.names.protos o.protos
  pub fields : AllZip (FieldAt o.names.types o.names.strings) o.names.fields o.fields
  pub methods : AllZip (MethodAt o.names.types o.names.strings o.names.protos) o.names.methods o.methods

-- the names of a list as a set
abbrev pub set_of : List Key → List Key
set_of names = add_all [] names

-- the five lists as sets
abbrev pub sets : Five → Five
sets s =
    record { strings = set_of s.strings; types = set_of s.types; protos = set_of s.protos; fields = set_of s.fields; methods = set_of s.methods }

-- what holds of sorted names
pub record IsTables (o : Order) : Type 0 where
  pub closed : IsClosed o.names
  pub parts : HaveParts o

-- the list with k after it, unless k is there
abbrev pub with_last : List Key → Key → List Key
with_last names k = if is_member names k then names else names ++ k ∷ []

-- each name keeps its number
pub record Grows (old new : List Key) : Type 0 where
  pub each : (i : ℕ) (k : Key) → IsAt old i k → IsAt new i k

-- each name of the five kinds does
pub record AllGrow (old new : Five) : Type 0 where
  pub strings : Grows old.strings new.strings
  pub types : Grows old.types new.types
  pub protos : Grows old.protos new.protos
  pub fields : Grows old.fields new.fields
  pub methods : Grows old.methods new.methods

-- ---- numbers to ranks

-- of each name of a list, by its number, the rank in a table
abbrev pub RanksOf : List Key → List Key → List ℕ → Type 0
RanksOf names table ranks = AllZip (λ k rank. IsAt table rank k) names ranks

-- a table of just these names, sorted, and of each name, by its number, the rank
pub record RanksNames (names table : List Key) (ranks : List ℕ) : Type 0 where
  pub same : table ≡ set_of names
  pub each : RanksOf names table ranks

-- the ranks of the parts of a field
abbrev pub field_ranks : List ℕ → List ℕ → FieldParts → FieldParts
field_ranks types strings p = record { class = slice_index types p.class; name = slice_index strings p.name; ty = slice_index types p.ty }

-- the ranks of the parts of a method
abbrev pub method_ranks : List ℕ → List ℕ → List ℕ → MethodParts → MethodParts
method_ranks types strings protos p =
    record { class = slice_index types p.class; name = slice_index strings p.name; proto = slice_index protos p.proto }

-- there are ranks for these numbers of a field's parts
abbrev pub FieldWithin : List ℕ → List ℕ → FieldParts → Type 0
FieldWithin types strings p = (p.class < length types) × (p.name < length strings) × (p.ty < length types)

-- there are ranks for these numbers of a method's parts
abbrev pub MethodWithin : List ℕ → List ℕ → List ℕ → MethodParts → Type 0
MethodWithin types strings protos p = (p.class < length types) × (p.name < length strings) × (p.proto < length protos)
