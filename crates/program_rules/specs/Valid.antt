-- Names that a file can have: the texts of types and members, and which types have fields, methods or values.
-- Page: "Dalvik Executable format", "String syntax" (TypeDescriptor, MemberName), "field_id_item", "method_id_item", "proto_id_item".
use Rattle.std.specs.Prelude.{◌≢◌, ◌⊎◌, ⊤}
use Rattle.std.specs.List.{AllByRecursion}
use Rattle.dex_base.specs.Descriptor.{IsDescriptor, IsClass, IsArray, IsMemberName}
use Rattle.program_types.specs.Content.{Descriptor, Proto, FieldRef, MethodRef, Name, OfText, OfDesc, OfField, OfMethod}
use Rattle.program_types.specs.Kinds.{void}

-- The type of a field or a parameter: a descriptor, and not void.
pub record IsValueType (t : Descriptor) : Type 0 where
  pub descriptor : IsDescriptor t
  pub value : t ≢ void

-- A return type, and parameters that are not void.
pub record IsValidProto (p : Proto) : Type 0 where
  pub ret : IsDescriptor p.ret
  pub params : AllByRecursion IsValueType p.params

-- A member name in a class type, of a type that is not void.
pub record IsValidField (f : FieldRef) : Type 0 where
  pub class : IsClass f.class
  pub name : IsMemberName f.name
  pub ty : IsValueType f.ty

-- A member name in a class or array type.
pub record IsValidMethod (m : MethodRef) : Type 0 where
  pub class : IsClass m.class ⊎ IsArray m.class
  pub name : IsMemberName m.name
  pub proto : IsValidProto m.proto

-- The name is one that a file can have.
abbrev pub IsValidName : Name → Type 0
IsValidName (OfText s) = ⊤
IsValidName (OfDesc t) = IsDescriptor t
IsValidName (OfField f) = IsValidField f
IsValidName (OfMethod m) = IsValidMethod m
