use Rattle.std.proofs.Common.{map}
use Rattle.program_types.specs.View.{insn}
use Rattle.code_rules.specs.Branches.{BranchHolds}
use Rattle.code_rules.specs.First.{AllHold}
use Rattle.code_rules.proofs.targets.first_bad_branch.Given as goal

abbrev pub invariant-loop-k : goal.invariant-loop-k
invariant-loop-k l = AllHold (BranchHolds (map insn l.insns)) l.k
