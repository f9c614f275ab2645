-- The content of a value in memory: one function a type, named as the type is, from the type in memory to its content. Two values
-- are equal by content where their views are equal, in whichever arenas they lie.
use Rattle.std.specs.Prelude.{map, option_map}
use Rattle.program_types.specs.Content as content
use Rattle.program_types.specs.declared.names.Str.{Str}
use Rattle.program_types.specs.declared.names.Desc.{Desc}
use Rattle.program_types.specs.declared.names.Proto.{Proto}
use Rattle.program_types.specs.declared.names.FieldRef.{FieldRef}
use Rattle.program_types.specs.declared.names.MethodRef.{MethodRef}
use Rattle.program_types.specs.declared.names.Name.{Name}
use Rattle.program_types.specs.declared.names.Name.TheVariants as named
use Rattle.program_types.specs.declared.insn.Insn.{Insn}
use Rattle.program_types.specs.declared.insn.Insn.TheVariants as made
use Rattle.program_types.specs.declared.code.Catch.{Catch}
use Rattle.program_types.specs.declared.code.Try.{Try}
use Rattle.program_types.specs.declared.code.Code.{Code}
use Rattle.program_types.specs.declared.class.Member.{Member}
use Rattle.program_types.specs.declared.class.Method.{Method}
use Rattle.program_types.specs.declared.class.Class.{Class}
use Rattle.program_types.specs.declared.class.Program.{Program}
use Rattle.program_types.specs.declared.value.Value.{Value}
use Rattle.program_types.specs.declared.value.Value.TheOpen.{Value-F}
use Rattle.program_types.specs.declared.value.Value.TheOpen as layer
use Rattle.program_types.specs.declared.value.Value.TheFolds.{fold-Value}

-- ---- Names

-- a string's UTF-16 units
abbrev pub str : Str → content.Units
str s = s.units.now

-- a type's descriptor
abbrev pub desc : Desc → content.Descriptor
desc d = str d.text

-- a prototype's return type and parameters
abbrev pub proto : Proto → content.Proto
proto p = record { ret = desc p.ret; params = map desc p.params.now }

-- a field's class, name and type
abbrev pub field_ref : FieldRef → content.FieldRef
field_ref f = record { class = desc f.class; name = str f.name; ty = desc f.ty }

-- a method's class, name and prototype
abbrev pub method_ref : MethodRef → content.MethodRef
method_ref m = record { class = desc m.class; name = str m.name; proto = proto m.proto.now }

-- which of the four kinds, and the name
abbrev pub name : Name → content.Name
name (named.Text s) = content.OfText (str s)
name (named.Desc d) = content.OfDesc (desc d)
name (named.Field f) = content.OfField (field_ref f.now)
name (named.Method m) = content.OfMethod (method_ref m.now)

-- ---- Values

-- A value whose inner values, if it is an array, are contents already.
abbrev pub value_step : Value-F content.Value → content.Value
value_step (layer.Byte n) = content.Byte n
value_step (layer.Short n) = content.Short n
value_step (layer.Char unit) = content.Char unit
value_step (layer.Int n) = content.Int n
value_step (layer.Long n) = content.Long n
value_step (layer.Float bits) = content.Float bits
value_step (layer.Double bits) = content.Double bits
value_step (layer.Text s) = content.Named (content.OfText (str s))
value_step (layer.Desc d) = content.Named (content.OfDesc (desc d))
value_step (layer.Field f) = content.Named (content.OfField (field_ref f.now))
value_step (layer.Method m) = content.Named (content.OfMethod (method_ref m.now))
value_step (layer.Enum f) = content.Enum (field_ref f.now)
value_step (layer.Array vs) = content.Array (content.values vs.now)
value_step layer.Null = content.Null
value_step (layer.Bool b) = content.Boolean b

-- From the innermost values outwards. Its equations, one a variant, are the lemmas of proofs/ValueViews.antt.
abbrev pub value : Value → content.Value
value = fold-Value content.Value value_step

-- ---- Instructions

-- An instruction's content: the same variant, with what its index names and where it branches to.
abbrev pub insn : Insn → content.Insn
insn (made.I10x op) = content.I10x op
insn (made.I12x op a b) = content.I12x op a b
insn (made.I11n op a b) = content.I11n op a b
insn (made.I11x op a) = content.I11x op a
insn (made.I10t op to) = content.I10t op to
insn (made.I20t op to) = content.I20t op to
insn (made.I22x op a b) = content.I22x op a b
insn (made.I21t op a to) = content.I21t op a to
insn (made.I21s op a b) = content.I21s op a b
insn (made.I21h op a b) = content.I21h op a b
insn (made.I21c op a which) = content.I21c op a (name which)
insn (made.I23x op a b c) = content.I23x op a b c
insn (made.I22b op a b c) = content.I22b op a b c
insn (made.I22t op a b to) = content.I22t op a b to
insn (made.I22s op a b c) = content.I22s op a b c
insn (made.I22c op a b which) = content.I22c op a b (name which)
insn (made.I30t op to) = content.I30t op to
insn (made.I32x op a b) = content.I32x op a b
insn (made.I31i op a b) = content.I31i op a b
insn (made.I31t op a to) = content.I31t op a to
insn (made.I31c op a which) = content.I31c op a (name which)
insn (made.I35c op n regs which) = content.I35c op n regs (name which)
insn (made.I3rc op n first which) = content.I3rc op n first (name which)
insn (made.I51l op a b) = content.I51l op a b
insn (made.Packed first targets) = content.Packed first targets.now
insn (made.Sparse keys targets) = content.Sparse keys.now targets.now
insn (made.Data width bytes) = content.Data width bytes.now

-- ---- Code

-- a caught type and its handler
abbrev pub catch : Catch → content.Catch
catch c = record { ty = desc c.ty; at = c.at }

-- the instructions that a try covers, and its handlers in their order
abbrev pub try : Try → content.Try
try t = record { from = t.from; to = t.to; catches = map catch t.catches.now; catch_all = t.catch_all }

-- a body: its registers, instructions and tries
abbrev pub code : Code → content.Code
code c = record {
  registers = c.registers;
  ins = c.ins;
  outs = c.outs;
  insns = map insn c.insns.now;
  tries = map try c.tries.now;
}

-- ---- Classes

-- a field that a class defines
abbrev pub member : Member → content.Member
member m = record { name = str m.name; ty = desc m.ty; flags = m.flags }

-- a method that a class defines, and its body if it has one
abbrev pub method : Method → content.Method
method m = record {
  name = str m.name;
  proto = proto m.proto.now;
  flags = m.flags;
  code = option_map (λ c. code c.now) m.code;
}

-- a class with all that it defines
abbrev pub class : Class → content.Class
class c = record {
  ty = desc c.ty;
  flags = c.flags;
  superclass = option_map desc c.superclass;
  interfaces = map desc c.interfaces.now;
  source = option_map str c.source;
  statics = map member c.statics.now;
  values = map value c.values.now;
  instances = map member c.instances.now;
  directs = map method c.directs.now;
  virtuals = map method c.virtuals.now;
}

-- the classes in their order
abbrev pub program : Program → content.Program
program p = map class p.classes.now
