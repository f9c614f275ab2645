use Rattle.std.proofs.Common.{map}
use Rattle.program_types.specs.View.{insn}
use Rattle.program_types.specs.Formed.{PayloadHolds}
use Rattle.code_rules.specs.First.{AllHold}
use Rattle.code_rules.proofs.payloads.first_bad_use.Given as goal

abbrev pub invariant-loop-k : goal.invariant-loop-k
invariant-loop-k l = AllHold (PayloadHolds (map insn l.insns)) l.k
