-- Which names of a class have to have indices, so that its items can be written.
-- Page: "Dalvik Executable format", "class_data_item", "encoded_array".
use Rattle.std.specs.Prelude.{◌≤◌, ◌^◌, ◌++◌, List, length, map, Option, IfSome}
use Rattle.code_write.specs.Fits.{CanBePut, FitsCode}
use Rattle.tables_names.specs.Closure.{Five, NameRanks, method_of_class}
use Rattle.program_types.specs.Content.{Code, Class, Name}
use Rattle.program_types.specs.Formed.{IsFormed}
use Rattle.program_types.specs.Mentions.{field_of_class}

-- the fields that a class defines, static ones first
abbrev pub fields_of : Class → List Name
fields_of c = map (field_of_class c.ty) c.statics ++ map (field_of_class c.ty) c.instances

-- the methods that a class defines, direct ones first
abbrev pub methods_of : Class → List Name
methods_of c = map (method_of_class c.ty) c.directs ++ map (method_of_class c.ty) c.virtuals

-- A body can be put.
pub record CanPut (s : Five) (c : Code) : Type 0 where
  pub formed : IsFormed c
  pub fits : FitsCode (NameRanks s) c
  pub ranked : CanBePut (NameRanks s) c

-- A body, if there is one, can be put.
abbrev pub BodyCanBePut : Five → Option Code → Type 0
BodyCanBePut s body = IfSome body (CanPut s)

-- All names have indices of 32 bits.
pub record FewNames (s : Five) : Type 0 where
  pub strings : length s.strings ≤ 2 ^ 32
  pub types : length s.types ≤ 2 ^ 32
  pub fields : length s.fields ≤ 2 ^ 32
  pub methods : length s.methods ≤ 2 ^ 32
