-- The names in a method's body, if it has one: those that its instructions name, and the types that its tries catch; and
-- the other names of a class.
-- Page: "Dalvik Executable format", "class_def_item"; "class_data_item"; "encoded_method": code_off is 0 for a method that is
-- abstract or native.
use Rattle.std.specs.Prelude.{List, [], ◌∷◌, ◌++◌, map}
use Rattle.std.specs.List.{flat_map}
use Rattle.program_types.specs.Content.{Name, OfText, OfDesc, Method, Class, Program}
use Rattle.program_types.specs.Mentions.{if_any, names_of_insn, names_of_try, names_of_value}
use Rattle.tables_names.specs.Noted.{members_of}

-- what its instructions name
abbrev pub named_in_body : Method → List Name
named_in_body m = if_any (λ c. flat_map names_of_insn c.insns) m.code

-- the types that it catches
abbrev pub caught_in_body : Method → List Name
caught_in_body m = if_any (λ c. flat_map names_of_try c.tries) m.code

-- what the instructions of a class's methods name: of the direct ones, then of the virtual ones
abbrev pub named_in_class : Class → List Name
named_in_class c = flat_map named_in_body c.directs ++ flat_map named_in_body c.virtuals

-- what the instructions of a program name, in the order in which its bodies are written
abbrev pub named_in_code : Program → List Name
named_in_code p = flat_map named_in_class p

-- the members that the classes of a program define, in the order in which class data is written
abbrev pub defined_in : Program → List Name
defined_in p = flat_map members_of p

-- ---- the other names of a class, in the order in which they are added

-- its superclass, interfaces and source file, its static values, and what its methods catch
abbrev pub other_names : Class → List Name
other_names c =
    if_any (λ t. OfDesc t ∷ []) c.superclass
    ++ map OfDesc c.interfaces
    ++ if_any (λ t. OfText t ∷ []) c.source
    ++ flat_map names_of_value c.values
    ++ flat_map caught_in_body c.directs
    ++ flat_map caught_in_body c.virtuals

-- its own type, and its members
abbrev pub own_names : Class → List Name
own_names c = OfDesc c.ty ∷ members_of c
