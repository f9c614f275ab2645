-- One member: what the contracts of private functions cite.
use Rattle.std.specs.Prelude.{IfSome}
use Rattle.std.specs.List.{AllByRecursion}
use Rattle.dex_base.specs.Descriptor.{IsMemberName}
use Rattle.program_types.specs.Content.{Member, Method}
use Rattle.program_types.specs.Mentions.{names_of_code}
use Rattle.program_rules.specs.Valid.{IsValueType, IsValidProto, IsValidName}

-- A field's own part of the rules for it.
pub record FieldIsValid (m : Member) : Type 0 where
  pub name : IsMemberName m.name
  pub ty : IsValueType m.ty

-- A method's, and its body's.
pub record MethodIsValid (m : Method) : Type 0 where
  pub name : IsMemberName m.name
  pub proto : IsValidProto m.proto
  pub body : IfSome m.code (λ c. AllByRecursion IsValidName (names_of_code c))
