-- The draft in memory, as a state.
use Rattle.std.specs.Prelude.{ℕ, ◌∷◌, map, option_map}
use Rattle.std.specs.Borrow.{Bor}
use Rattle.program_types.specs.Content as content
use Rattle.program_types.specs.Key.{proto_key}
use Rattle.program_types.specs.View.{desc, str, proto, member, class, value, insn, code, try, catch}
use Rattle.program_types.specs.declared.names.Str.{Str}
use Rattle.program_types.specs.declared.names.Desc.{Desc}
use Rattle.program_types.specs.declared.names.Proto.{Proto}
use Rattle.listing_lines.specs.inner.NeedView.{need}
use Rattle.listing_parse.specs.Members as members
use Rattle.listing_parse.specs.States as states
use Rattle.listing_parse.specs.declared.close.Given.{Given}
use Rattle.listing_parse.specs.declared.open_class.Static.{Static}
use Rattle.listing_parse.specs.declared.open_class.Defined.{Defined}
use Rattle.listing_parse.specs.declared.open_class.Open.{Open}
use Rattle.listing_parse.specs.declared.open_class.Owner.{Owner}
use Rattle.listing_parse.specs.declared.open_class.ClassPart.{ClassPart}
use Rattle.listing_parse.specs.declared.open_class.ClassPart.TheVariants as of_class
use Rattle.listing_parse.specs.declared.open_code.OpenBody.{OpenBody}
use Rattle.listing_parse.specs.declared.open_code.OpenTry.{OpenTry}
use Rattle.listing_parse.specs.declared.open_code.CodePart.{CodePart}
use Rattle.listing_parse.specs.declared.open_code.CodePart.TheVariants as of_code
use Rattle.listing_parse.specs.declared.block.Block.{Block}
use Rattle.listing_parse.specs.declared.block.Block.TheVariants as of_block
use Rattle.listing_parse.specs.declared.draft.Draft.{Draft}

-- a static field, and its value
abbrev pub given : Given → members.Given
given g = record { field = member g.field; value = option_map value g.value }

-- a static field that is held by its name and type
abbrev pub held_static : (Str × Desc) × Static → members.Given
held_static e = record { field = record { name = str e.0.0; ty = desc e.0.1; flags = e.1.flags }; value = option_map value e.1.value }

-- an instance field, which is held by its name and type
abbrev pub held_instance : (Str × Desc) × ℕ → content.Member
held_instance e = record { name = str e.0.0; ty = desc e.0.1; flags = e.1 }

-- a method that is held by its name and prototype
abbrev pub held_method : (Str × Bor Proto) × Defined → content.Method
held_method e = record { name = str e.0.0; proto = proto e.0.1.now; flags = e.1.flags; code = option_map (λ c. code c.now) e.1.code }

-- the class that is open
unfoldable pub open_class : Open → states.Open
open_class c = record {
  ty = desc c.ty;
  flags = c.flags;
  superclass = option_map desc c.superclass;
  interfaces = map desc c.interfaces.keys;
  source = option_map str c.source;
  statics = map held_static c.statics.entries;
  instances = map held_instance c.instances.entries;
  directs = map held_method c.directs.entries;
  virtuals = map held_method c.virtuals.entries;
}

-- the method that a code belongs to
abbrev pub owner : Owner → states.Owner
owner m = record { direct = m.direct; method = str m.name ∷ proto_key (proto m.proto.now) }

-- how far the lines of a class have come
abbrev pub class_part : ClassPart → states.ClassPart
class_part of_class.Heads = states.at_heads
class_part of_class.Members = states.at_members
class_part (of_class.After m) = states.after_method (owner m)

-- the code that is open
unfoldable pub open_body : OpenBody → states.OpenBody
open_body b = record {
  owner = owner b.owner;
  registers = b.registers;
  ins = b.ins;
  outs = b.outs;
  insns = map insn b.insns.items;
  tries = map try b.tries.items;
  needs = map need b.needs.items;
}

-- the try that is open
abbrev pub open_try : OpenTry → states.OpenTry
open_try t = record { from = t.from; to = t.to; catches = map catch t.catches.items }

-- how far the lines of a code have come
abbrev pub code_part : CodePart → states.CodePart
code_part of_code.Insns = states.at_insns
code_part of_code.Tries = states.after_try
code_part (of_code.Caught t) = states.in_try (open_try t)

-- the block that is open
unfoldable pub block : Block → states.Block
block of_block.Start = states.at_start
block of_block.Top = states.at_top
block (of_block.Class c) = states.in_class (open_class c.open) (class_part c.part)
block (of_block.Code c) = states.in_code (open_class c.class) (open_body c.body) (code_part c.part)

-- the whole draft
unfoldable pub state : Draft → states.State
state d = record { done = map class d.done.items; block = block d.block; lines = d.lines; late = d.late }
