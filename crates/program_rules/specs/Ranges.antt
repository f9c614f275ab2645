-- Programs whose numbers and units lie in the ranges of their types, as those of every program in memory do.
-- Page: "Dalvik Executable format": the types ubyte to uint of the items' fields, and "string_data_item", whose units are of 16 bits.
use Rattle.std.specs.Prelude.{◌<◌, ⊤, IfSome, FitsSigned}
use Rattle.std.specs.Int.{w8, w16, w32, w64}
use Rattle.std.specs.List.{AllByRecursion}
use Rattle.program_types.specs.Content.{Proto, FieldRef, MethodRef, Name, OfText, OfDesc, OfField, OfMethod, Value, Values, no_values, more_values, Code, Member, Method, Class, Program, AreUnits}
use Rattle.program_types.specs.Content as made
use Rattle.program_types.specs.Mentions.{names_of_class}

-- The units of a prototype's types are numbers of 16 bits.
pub record ProtoInRange (p : Proto) : Type 0 where
  pub ret : AreUnits p.ret
  pub params : AllByRecursion AreUnits p.params

-- The units of a field's names are numbers of 16 bits.
pub record FieldInRange (f : FieldRef) : Type 0 where
  pub class : AreUnits f.class
  pub name : AreUnits f.name
  pub ty : AreUnits f.ty

-- The units of a method's names are numbers of 16 bits.
pub record MethodInRange (m : MethodRef) : Type 0 where
  pub class : AreUnits m.class
  pub name : AreUnits m.name
  pub proto : ProtoInRange m.proto

-- The units of a name are numbers of 16 bits.
abbrev pub NameInRange : Name → Type 0
NameInRange (OfText s) = AreUnits s
NameInRange (OfDesc t) = AreUnits t
NameInRange (OfField f) = FieldInRange f
NameInRange (OfMethod m) = MethodInRange m

-- The number in a value fits its type.
abbrev mutual
  pub ValueInRange : Value → Type 0
  ValueInRange (made.Byte n) = FitsSigned w8 n
  ValueInRange (made.Short n) = FitsSigned w16 n
  ValueInRange (made.Char unit) = unit < 65536
  ValueInRange (made.Int n) = FitsSigned w32 n
  ValueInRange (made.Long n) = FitsSigned w64 n
  ValueInRange (made.Float bits) = bits < 4294967296
  ValueInRange (made.Double bits) = bits < 18446744073709551616
  ValueInRange (made.Array vs) = ValuesInRange vs
  ValueInRange _ = ⊤

  pub ValuesInRange : Values → Type 0
  ValuesInRange no_values = ⊤
  ValuesInRange (more_values v vs) = ValueInRange v × ValuesInRange vs

-- The counts of a code's registers are numbers of 16 bits; those of its instructions are ruled by their formats.
pub record CodeInRange (c : Code) : Type 0 where
  pub registers : c.registers < 65536
  pub ins : c.ins < 65536
  pub outs : c.outs < 65536

-- A member's flags are a number of 32 bits.
abbrev pub MemberInRange : Member → Type 0
MemberInRange m = m.flags < 4294967296

-- A method's flags are a number of 32 bits, and its body's counts fit.
pub record DefinedInRange (m : Method) : Type 0 where
  pub flags : m.flags < 4294967296
  pub code : IfSome m.code CodeInRange

-- All numbers and units in a class.
pub record ClassInRange (c : Class) : Type 0 where
  pub flags : c.flags < 4294967296
  pub names : AllByRecursion NameInRange (names_of_class c)
  pub statics : AllByRecursion MemberInRange c.statics
  pub values : AllByRecursion ValueInRange c.values
  pub instances : AllByRecursion MemberInRange c.instances
  pub directs : AllByRecursion DefinedInRange c.directs
  pub virtuals : AllByRecursion DefinedInRange c.virtuals

-- All in a program.
abbrev pub InRange : Program → Type 0
InRange p = AllByRecursion ClassInRange p
