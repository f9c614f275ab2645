use Rattle.std.proofs.Common.{map}
use Rattle.program_types.specs.View.{insn}
use Rattle.code_rules.proofs.OriginLaws.{AreSwitchesSoFar}
use Rattle.code_rules.proofs.origins.mark_switches.Given as goal

abbrev pub invariant-loop-j : goal.invariant-loop-j
invariant-loop-j l = AreSwitchesSoFar (map insn l.insns) l.j l.all
