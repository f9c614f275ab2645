use Rattle.std.proofs.Common.{◌≡◌, map, take}
use Rattle.program_types.specs.View.{class, desc}
use Rattle.program_rules.specs.inner.Numbers.{types}
use Rattle.program_rules.proofs.program.types_of.Given as goal

abbrev pub invariant-loop-one : goal.invariant-loop-one
invariant-loop-one l = map desc l.list.items ≡ types (map class (take l.one-index l.classes))
