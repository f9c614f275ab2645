-- Which line is allowed where.
-- Page: docs/LISTING.md, "The lines", "Faults" (103).
use Rattle.std.specs.Prelude.{Bool, true, false}
use Rattle.listing_slots.specs.declared.kind.Kind.{Kind}
use Rattle.listing_slots.specs.declared.kind.Kind.TheVariants as kind
use Rattle.listing_lines.specs.declared.stage.Stage.{Stage}
use Rattle.listing_lines.specs.declared.stage.Stage.TheVariants.{Start, Top, Heads, Members, After, Insns, Tries, Caught}

-- Before the first line.
abbrev pub is_start : Stage → Bool
is_start Start = true
is_start _ = false

-- Outside all classes.
abbrev pub is_top : Stage → Bool
is_top Top = true
is_top _ = false

-- A superclass, an interface or a source file is allowed there.
abbrev pub is_heads : Stage → Bool
is_heads Heads = true
is_heads _ = false

-- a member or a class's end is allowed there
abbrev pub is_in_class : Stage → Bool
is_in_class Heads = true
is_in_class Members = true
is_in_class After = true
is_in_class _ = false

-- A code is allowed there: the line before is a method.
abbrev pub is_after : Stage → Bool
is_after After = true
is_after _ = false

-- An instruction is allowed there.
abbrev pub is_insns : Stage → Bool
is_insns Insns = true
is_insns _ = false

-- a try or a code's end is allowed there
abbrev pub is_in_code : Stage → Bool
is_in_code Insns = true
is_in_code Tries = true
is_in_code Caught = true
is_in_code _ = false

-- A catch is allowed there: a try is open.
abbrev pub is_caught : Stage → Bool
is_caught Caught = true
is_caught _ = false

-- A line is an instruction.
abbrev pub is_insn : Kind → Bool
is_insn (kind.Plain op) = true
is_insn kind.Packed = true
is_insn kind.Sparse = true
is_insn kind.Elements = true
is_insn _ = false

-- Whether a line of this kind is allowed there.
unfoldable pub may_stand : Stage → Kind → Bool
may_stand s kind.First = is_start s
may_stand s kind.OpenClass = is_top s
may_stand s kind.Super = is_heads s
may_stand s kind.Implements = is_heads s
may_stand s kind.Source = is_heads s
may_stand s kind.EndClass = is_in_class s
may_stand s kind.Static = is_in_class s
may_stand s kind.Given = is_in_class s
may_stand s kind.Instance = is_in_class s
may_stand s kind.Direct = is_in_class s
may_stand s kind.Virtual = is_in_class s
may_stand s kind.OpenCode = is_after s
may_stand s (kind.Plain op) = is_insns s
may_stand s kind.Packed = is_insns s
may_stand s kind.Sparse = is_insns s
may_stand s kind.Elements = is_insns s
may_stand s kind.Try = is_in_code s
may_stand s kind.EndCode = is_in_code s
may_stand s kind.Catch = is_caught s
may_stand s kind.CatchAll = is_caught s
