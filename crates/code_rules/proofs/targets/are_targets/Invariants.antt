use Rattle.std.proofs.Common.{◌↔◌, map, drop}
use Rattle.std.specs.List.{AllByRecursion}
use Rattle.program_types.specs.View.{insn}
use Rattle.program_types.specs.Formed.{IsTarget}
use Rattle.code_rules.proofs.targets.are_targets.Given as goal

abbrev pub invariant-loop-to : goal.invariant-loop-to
invariant-loop-to l = AllByRecursion (IsTarget (map insn l.insns)) l.targets ↔ AllByRecursion (IsTarget (map insn l.insns)) (drop l.to-index l.targets)
