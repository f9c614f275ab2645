use Rattle.std.proofs.Common.{◌↔◌, map, drop}
use Rattle.std.specs.List.{AllByRecursion}
use Rattle.program_types.specs.View.{insn}
use Rattle.program_rules.specs.inner.Valid.{InsnIsNamed}
use Rattle.program_rules.proofs.bodies.insns_are_valid.Given as goal

abbrev pub invariant-loop-each : goal.invariant-loop-each
invariant-loop-each l = AllByRecursion InsnIsNamed (map insn l.all) ↔ AllByRecursion InsnIsNamed (map insn (drop l.each-index l.all))
