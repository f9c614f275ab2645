-- What a walk knows of an instruction by its first unit.
-- Page: "Dalvik Executable instruction formats", "Format IDs": the digits and the letter of a format's ID.
use Rattle.std.specs.Prelude.{ℕ, ◌≡◌, List, Option, Some, None}
use Rattle.dex_insn.specs.Raw as raw
use Rattle.dex_insn.specs.Raw.{Raw, units}
use Rattle.dex_insn.specs.RawInsns.{SpellsInsn}
use Rattle.dex_insn.specs.Opcodes.{units_of}
use Rattle.dex_insn.specs.declared.opcode.Format.{Format}
use Rattle.dex_insn.specs.declared.opcode.Format.TheVariants.{F21c, F22c, F31c, F35c, F3rc}
use Rattle.file_renumber.specs.declared.shapes.Shape.{Shape}
use Rattle.file_renumber.specs.declared.shapes.Shape.TheVariants.{Plain, Short, Long, Five, Payload}

-- the shape of instructions of the format
abbrev pub shape_in : Option Format → Shape
shape_in (Some F21c) = Short 2
shape_in (Some F22c) = Short 2
shape_in (Some F3rc) = Short 3
shape_in (Some F31c) = Long
shape_in (Some F35c) = Five
shape_in (Some format) = Plain (units_of format)
shape_in None = Plain 1

-- the shape of an instruction
abbrev pub shape_of : Raw → Shape
shape_of (raw.I21c op a index) = Short 2
shape_of (raw.I22c op a b index) = Short 2
shape_of (raw.I3rc op n first index) = Short 3
shape_of (raw.I31c op a index) = Long
shape_of (raw.I35c op n regs index) = Five
shape_of (raw.Packed first offsets) = Payload
shape_of (raw.Sparse keys offsets) = Payload
shape_of (raw.Data width bytes) = Payload
shape_of r = Plain (units r)

-- The instruction is at the front of the units, and has this shape.
pub record IsOfShape (us : List ℕ) (shape : Shape) (r : Raw) : Type 0 where
  pub spelled : SpellsInsn us r
  pub shaped : shape_of r ≡ shape
