-- The names that a program mentions.
-- Page: "Dalvik Executable format": class_def_item, class_data_item, code_item and encoded_value name strings, types, fields
-- and methods by their indices, so these have to be in the tables.
use Rattle.std.specs.Prelude.{⊤, List, [], ◌∷◌, ◌++◌, map, Option, None, Some}
use Rattle.std.specs.List.{flat_map}
use Rattle.program_types.specs.Content.{Descriptor, Name, OfText, OfDesc, OfField, OfMethod, Value, Values, Named, Enum, Array, no_values, more_values, Insn, I21c, I22c, I31c, I35c, I3rc, Try, Code, Member, Method, Class, Program}

-- the names in what may be missing
abbrev pub if_any : {A : Type 0} → (A → List Name) → Option A → List Name
if_any names None = []
if_any names (Some one) = names one

-- those of a value, and of a list of values
abbrev mutual
  pub names_of_value : Value → List Name
  names_of_value (Named which) = which ∷ []
  names_of_value (Enum constant) = OfField constant ∷ []
  names_of_value (Array vs) = names_of_values vs
  names_of_value _ = []

  pub names_of_values : Values → List Name
  names_of_values no_values = []
  names_of_values (more_values v vs) = names_of_value v ++ names_of_values vs

-- what an instruction's index names, in the formats that have one
abbrev pub names_of_insn : Insn → List Name
names_of_insn (I21c op a which) = which ∷ []
names_of_insn (I22c op a b which) = which ∷ []
names_of_insn (I31c op a which) = which ∷ []
names_of_insn (I35c op n regs which) = which ∷ []
names_of_insn (I3rc op n first which) = which ∷ []
names_of_insn _ = []

-- the types that a try catches
abbrev pub names_of_try : Try → List Name
names_of_try t = map (λ c. OfDesc c.ty) t.catches

-- the names in a body's instructions, and the types of its catches
abbrev pub names_of_code : Code → List Name
names_of_code c = flat_map names_of_insn c.insns ++ flat_map names_of_try c.tries

-- a field that a class of this type defines
abbrev pub field_of_class : Descriptor → Member → Name
field_of_class class m = OfField (record { class = class; name = m.name; ty = m.ty })

-- a method that a class of this type defines, and the names in its body
abbrev pub names_of_method : Descriptor → Method → List Name
names_of_method class m = OfMethod (record { class = class; name = m.name; proto = m.proto }) ∷ if_any names_of_code m.code

-- a class's type, its superclass, interfaces and source file, its fields and their values, its methods and their bodies
abbrev pub names_of_class : Class → List Name
names_of_class c =
    OfDesc c.ty
    ∷ if_any (λ t. OfDesc t ∷ []) c.superclass
    ++ map OfDesc c.interfaces
    ++ if_any (λ s. OfText s ∷ []) c.source
    ++ map (field_of_class c.ty) c.statics
    ++ flat_map names_of_value c.values
    ++ map (field_of_class c.ty) c.instances
    ++ flat_map (names_of_method c.ty) c.directs
    ++ flat_map (names_of_method c.ty) c.virtuals

-- the names that a program mentions
abbrev pub mentions : Program → List Name
mentions p = flat_map names_of_class p

-- P holds of each name in a value, and in values.
abbrev mutual
  pub NamesHold : (Name → Type 0) → Value → Type 0
  NamesHold P (Named which) = P which
  NamesHold P (Enum constant) = P (OfField constant)
  NamesHold P (Array vs) = AllNamesHold P vs
  NamesHold P _ = ⊤

  pub AllNamesHold : (Name → Type 0) → Values → Type 0
  AllNamesHold P no_values = ⊤
  AllNamesHold P (more_values v vs) = NamesHold P v × AllNamesHold P vs
